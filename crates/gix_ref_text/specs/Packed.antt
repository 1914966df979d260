-- What a file `packed-refs` says (git-pack-refs; gitrepository-layout, "packed-refs").
use Rattle.std.specs.Prelude.{ℕ, List, [], ◌∷◌, Bool, false, ◌==◌, ◌&&◌, cond, Option, None, Some, take, drop, codes, nat_eq}
use Rattle.std.specs.Cmp.Lexicographic.{pointwise}
use Rattle.gix_ref_text.specs.Lines.{lines, id_of}
use Rattle.gix_ref_text.specs.Loose.{Says, HasId}

-- A text is a blank and this name.
abbrev pub is_named : List ℕ → List ℕ → Bool
is_named [] name = false
is_named (b ∷ rest) name = b == 32 && pointwise nat_eq rest name

-- The bytes of the id, if a line is `ID NAME` with this name.
abbrev pub told_by : List ℕ → List ℕ → Option (List ℕ)
told_by line name = cond (is_named (drop 40 line) name) (id_of (take 40 line)) None

-- The bytes of the id, if a line is `^ID`.
abbrev pub peeled : List ℕ → Option (List ℕ)
peeled line = cond (pointwise nat_eq (take 1 line) (codes "^")) (id_of (drop 1 line)) None

-- The bytes of the id of the first line, if it is a line `^ID`.
abbrev pub peeled_first : List (List ℕ) → Option (List ℕ)
peeled_first [] = None
peeled_first (line ∷ rest) = peeled line

-- What a line says that tells of an id, before a line that peels it; or else what others say.
abbrev pub first_of : Option (List ℕ) → Option (List ℕ) → Option Says → Option Says
first_of None peels others = others
first_of (Some id) peels others = Some (HasId id peels)

-- The id of the first line `ID NAME` with this name. If the next line is `^ID`, that is the object
-- to which the tag leads.
abbrev pub lines_say : List (List ℕ) → List ℕ → Option Says
lines_say [] name = None
lines_say (line ∷ rest) name = first_of (told_by line name) (peeled_first rest) (lines_say rest name)

-- What the bytes of `packed-refs` say of a name.
abbrev pub packed_says : List ℕ → List ℕ → Option Says
packed_says bytes name = lines_say (lines bytes) name
