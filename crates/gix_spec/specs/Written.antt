-- How each piece of a text is written (gitrevisions, "Specifying Revisions" and "Specifying
-- Ranges").
use Rattle.std.specs.Prelude.{◌≡◌, ◌⊎◌, ℕ, ◌+◌, List, [], ◌∷◌, ◌++◌, codes, Bool, true, false, Some, length, drop}
use Rattle.gix_base.specs.declared.date.Time.{Time}
use Rattle.gix_base.specs.declared.object.Kind.TheVariants.{Commit}
use Rattle.gix_date.specs.Date.{date_of}
use Rattle.gix_spec.specs.declared.spec.Kind.TheVariants.{RangeBetween, ReachableToMergeBase, IncludeReachableFromParents, ExcludeReachableFromParents}
use Rattle.gix_spec.specs.declared.spec.parse.delegate.Traversal.TheVariants.{NthParent, NthAncestor}
use Rattle.gix_spec.specs.Call.{object}
use Rattle.gix_spec.specs.Pieces.{Piece, exclude, regex, index, head, name, branch, reflog, sibling, date, unescaped, step, peel, path, closer, without_parent, range, finish, finished, fault}
use Rattle.gix_spec.specs.Marks.{colon}
use Rattle.gix_spec.specs.Number.{digits_number, minus, plain, signed_of}
use Rattle.gix_spec.specs.Braces.{meant_of}
use Rattle.gix_spec.specs.AtParts.{lookup_of, time_of}
use Rattle.gix_spec.specs.Sibling.{sibling_of}
use Rattle.gix_spec.specs.Targets.{target_named}

-- The digits say the number n. If there are no digits, n is 1.
abbrev pub IsNumber : (digits : List ℕ) → (n : ℕ) → Type 0
IsNumber [] n = n ≡ 1
IsNumber (b ∷ digits) n = digits_number (b ∷ digits) ≡ Some n

-- The text own is mark, followed by digits that say n.
abbrev pub IsNumbered : (mark : List ℕ) → (n : ℕ) → (own : List ℕ) → Type 0
IsNumbered mark n own = (digits : List ℕ) × (own ≡ mark ++ digits) × IsNumber digits n

-- The text own is mark, followed by inner in braces.
abbrev pub IsBraced : (mark inner own : List ℕ) → Type 0
IsBraced mark inner own = own ≡ mark ++ (codes "{" ++ (inner ++ codes "}"))

-- The text inner, which is between braces, without the backslashes that escape.
abbrev pub meant_in : (inner : List ℕ) → List ℕ
meant_in inner = meant_of (codes "{" ++ (inner ++ codes "}")) (length inner)

-- The text tail after a slash is the regex raw. A negated regex follows `!-`; others may follow a
-- `!`.
abbrev pub IsRegex : (raw : List ℕ) → (negated : Bool) → (tail : List ℕ) → Type 0
IsRegex raw true tail = tail ≡ codes "!-" ++ raw
IsRegex raw false tail = (tail ≡ raw) ⊎ (tail ≡ codes "!" ++ raw)

-- The regex raw is the text inner in braces without its first byte and a mark: two bytes if it is
-- negated, and otherwise at most one.
abbrev pub IsRegexIn : (raw : List ℕ) → (negated : Bool) → (inner : List ℕ) → Type 0
IsRegexIn raw true inner = raw ≡ drop 3 inner
IsRegexIn raw false inner = (raw ≡ drop 1 inner) ⊎ (raw ≡ drop 2 inner)

-- The text wanted is the regex after a slash and its mark in inner without escapes.
abbrev pub IsWantedIn : (wanted : List ℕ) → (negated : Bool) → (inner : List ℕ) → Type 0
IsWantedIn wanted negated inner = (tail : List ℕ) × (meant_in inner ≡ codes "/" ++ tail) × IsRegex wanted negated tail

-- The text own is how the piece is written. A text in braces, without escapes, says the number, the
-- branch, the date, the target or the regex of the piece. A fault stands for the rest of the text,
-- whatever it is.
abbrev pub IsWritten : Piece → (own : List ℕ) → Type 0
IsWritten exclude own = own ≡ codes "^"
IsWritten (regex wanted raw negated) own =
    ((tail : List ℕ) × (own ≡ codes ":/" ++ tail) × IsRegex raw negated tail × (wanted ≡ raw))
    ⊎ ((inner : List ℕ) × IsBraced (codes "^") inner own × IsRegexIn raw negated inner × IsWantedIn wanted negated inner)
IsWritten (index p stage) own = ((stage ≡ 0) × (own ≡ colon ∷ p)) ⊎ (own ≡ colon ∷ (stage + 48) ∷ colon ∷ p)
IsWritten head own = (own ≡ []) ⊎ (own ≡ codes "@")
IsWritten (name text whole attempt) own = own ≡ text
IsWritten (branch n inner) own = IsBraced (codes "@") inner own × (signed_of (meant_in inner) ≡ Some (minus n))
IsWritten (reflog query own_name inner) own =
    IsBraced (codes "@") inner own × ((n : ℕ) × (signed_of (meant_in inner) ≡ Some (plain n)) × (query ≡ lookup_of n))
IsWritten (sibling which own_name inner) own = IsBraced (codes "@") inner own × (sibling_of (meant_in inner) ≡ Some which)
IsWritten (date meaning own_name inner) own =
    IsBraced (codes "@") inner own × ((now : Time) → meaning now ≡ time_of (date_of (meant_in inner) now))
IsWritten unescaped own = own ≡ []
IsWritten (step (NthAncestor n) after) own = IsNumbered (codes "~") n own
IsWritten (step (NthParent n) after) own = IsNumbered (codes "^") n own
IsWritten (peel target after) own =
    ((inner : List ℕ) × IsBraced (codes "^") inner own × (target_named (meant_in inner) ≡ Some target)) ⊎ ((target ≡ object Commit) × IsNumbered (codes "^") 0 own)
IsWritten (path p) own = own ≡ colon ∷ p
IsWritten (closer k rest) own =
    ((k ≡ ExcludeReachableFromParents) × (own ≡ codes "^!")) ⊎ ((k ≡ IncludeReachableFromParents) × (own ≡ codes "^@"))
IsWritten (without_parent n after rest) own = IsNumbered (codes "^-") n own
IsWritten (range k) own = ((k ≡ RangeBetween) × (own ≡ codes "..")) ⊎ ((k ≡ ReachableToMergeBase) × (own ≡ codes "..."))
IsWritten finish own = own ≡ []
IsWritten finished own = own ≡ []
IsWritten (fault f input) own = Unit {0}

-- The pieces, written one after another, are text up to its end rest.
abbrev pub Spells : List Piece → (text rest : List ℕ) → Type 0
Spells [] text rest = text ≡ rest
Spells (p ∷ ps) text rest = (own : List ℕ) × (more : List ℕ) × (text ≡ own ++ more) × IsWritten p own × Spells ps more rest

-- The piece is a fault.
abbrev pub is_fault : Piece → Bool
is_fault (fault f input) = true
is_fault _ = false

-- No piece is a fault.
abbrev pub NoFault : List Piece → Type 0
NoFault [] = Unit {0}
NoFault (p ∷ ps) = (is_fault p ≡ false) × NoFault ps
