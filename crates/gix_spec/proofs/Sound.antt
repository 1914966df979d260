-- The pieces of a text name parts of it, and ask for what a delegate may be asked.
use Rattle.std.proofs.Common.{◌≡◌, ℕ, zero, suc, ◌+◌, ◌<◌, ◌==◌, ◌&&◌, ◌||◌, not, List, [], ◌∷◌, ◌++◌, Bool, true, false, Option, Some, None, length, slice_index, take, drop, refl, sym, ◌∙◌, ap, subst, arith, append_assoc, append-nil}
use Rattle.std.specs.Prelude.{nat_lt, nat_le}
use Rattle.std.proofs.lemmas.Bool.{eqb-true, ltb-true, ltb-false}
use Rattle.std.proofs.lemmas.List.{get_or_append_left, get_or-append-add, get_or_past}
use Rattle.gix_spec.specs.Marks.{backslash}
use Rattle.gix_spec.specs.Braces.{is_special, follows_escape, is_escaped, has_escape}
use Rattle.gix_spec.specs.declared.spec.parse.delegate.Traversal.TheVariants.{NthParent, NthAncestor}
use Rattle.gix_spec.specs.Pieces.{Piece, regex, index, name, branch, reflog, sibling, date, unescaped, step, peel, path, closer, without_parent, fault}
use Rattle.gix_spec.specs.Ends.{IsPartOf}

-- parts of a text
pub record Within (part text : List ℕ) : Type 0 where
  pub within : IsPartOf part text

pub within_self : (text : List ℕ) → Within text text
within_self text = record { within = ([], [], sym (append-nil text)) }

pub within_none : (text : List ℕ) → Within [] text
within_none text = record { within = ([], text, refl) }

pub within_tail : (b : ℕ) (rest text : List ℕ) → Within (b ∷ rest) text → Within rest text
within_tail b rest text h =
    let before = h.within.0 in
    record { within = (before ++ b ∷ [], h.within.1, h.within.2 ∙ sym (append_assoc before (b ∷ []) (rest ++ h.within.1))) }

pub within_drop : (n : ℕ) (part text : List ℕ) → Within part text → Within (drop n part) text
within_drop zero part text h = h
within_drop (suc n) [] text h = h
within_drop (suc n) (b ∷ rest) text h = within_drop n rest text (within_tail b rest text h)

take_before : (n : ℕ) (xs more : List ℕ) → take n xs ++ (drop n xs ++ more) ≡ xs ++ more
take_before zero xs more = refl
take_before (suc n) [] more = refl
take_before (suc n) (x ∷ xs) more = ap (λ ys. x ∷ ys) (take_before n xs more)

pub within_take : (n : ℕ) (part text : List ℕ) → Within part text → Within (take n part) text
within_take n part text h =
    record { within = (h.within.0, drop n part ++ h.within.1, h.within.2 ∙ ap (λ ys. h.within.0 ++ ys) (sym (take_before n part h.within.1))) }

-- a part that a fault names, if it names one
abbrev pub GivenWithin : Option (List ℕ) → (text : List ℕ) → Type 0
GivenWithin None text = Unit {0}
GivenWithin (Some input) text = Within input text

pub first_true : (a b : Bool) → (a && b) ≡ true → a ≡ true
first_true true b h = refl
first_true false b h = cc

pub second_true : (a b : Bool) → (a && b) ≡ true → b ≡ true
second_true true b h = h
second_true false b h = cc

-- a backslash stands before a brace or a backslash
abbrev pub HasEscape : (text : List ℕ) → Type 0
HasEscape text = (k : ℕ) × (slice_index text k ≡ backslash) × (is_special (slice_index text (k + 1)) ≡ true)

-- a byte that is not 0 stands within a text
inside_by : (text : List ℕ) (k : ℕ) (b : Bool) → nat_lt k (length text) ≡ b → (slice_index text k ≡ 0 → ⊥) → k < length text
inside_by text k true e h = ltb-true k (length text) e
inside_by text k false e h = absurd (h (get_or_past text k 0 (ltb-false k (length text) e)))

inside : (text : List ℕ) (k : ℕ) → (slice_index text k ≡ 0 → ⊥) → k < length text
inside text k h = inside_by text k (nat_lt k (length text)) refl h

-- a byte of a part is one of the text
byte_within : (before part after : List ℕ) (k : ℕ) → k < length part → slice_index (before ++ (part ++ after)) (length before + k) ≡ slice_index part k
byte_within before part after k h = get_or-append-add before (part ++ after) k 0 ∙ get_or_append_left part after 0 k h

special_inside : (b : ℕ) → is_special b ≡ true → b ≡ 0 → ⊥
special_inside b h e = cc (subst (λ c. is_special c ≡ true) e h)

-- an escape in a part is one of the text
pub escape_within : (part text : List ℕ) → Within part text → HasEscape part → HasEscape text
escape_within part text h e =
    let before : List ℕ = h.within.0 in
    let after : List ℕ = h.within.1 in
    let k : ℕ = e.0 in
    let first : k < length part = inside part k (λ z. cc (z, e.1)) in
    let second : k + 1 < length part = inside part (k + 1) (special_inside _ e.2) in
    let next : length before + k + 1 ≡ length before + (k + 1) = omega arith in
    rw h.within.2 (
      length before + k,
      byte_within before part after k first ∙ e.1,
      rw (next, byte_within before part after (k + 1) second) e.2,
    )

-- an escaped place follows its escape
escape_at : (text : List ℕ) (k : ℕ) → is_escaped text k ≡ true → HasEscape text
escape_at text zero h = cc (second_true (is_special (slice_index text 0)) false h)
escape_at text (suc k) h =
    let next : k + 1 ≡ suc k = omega arith in
    let follows = second_true (is_special (slice_index text (suc k))) (follows_escape text (suc k)) h in
    (k, eqb-true _ _ (first_true (slice_index text k == backslash) (not (follows_escape text k)) follows), rw next (first_true (is_special (slice_index text (suc k))) (follows_escape text (suc k)) h))

escape_or : (text : List ℕ) (n : ℕ) (a b : Bool) → (a || b) ≡ true → (a ≡ true → HasEscape text) → (b ≡ true → HasEscape text) → HasEscape text
escape_or text n true b h f g = f refl
escape_or text n false b h f g = g h

pub escape_there : (text : List ℕ) (n : ℕ) → has_escape text n ≡ true → HasEscape text
escape_there text zero h = cc
escape_there text (suc n) h = escape_or text n (has_escape text n) (is_escaped text n) h (escape_there text n) (escape_at text n)

-- a piece names parts of this text, and asks for what a delegate may be asked; escapes are taken out where there are some
abbrev pub IsSound : (text : List ℕ) → Piece → Type 0
IsSound text (regex wanted raw negated) = Within raw text
IsSound text (index p stage) = Within p text × (nat_le stage 3 ≡ true)
IsSound text (name t whole attempt) = Within whole text
IsSound text (step (NthParent n) after) = Within after text × (nat_lt 0 n ≡ true)
IsSound text (step (NthAncestor n) after) = Within after text
IsSound text (peel target after) = Within after text
IsSound text (path p) = Within p text
IsSound text (closer k rest) = Within rest text
IsSound text (without_parent n after rest) = Within after text × Within rest text × (nat_lt 0 n ≡ true)
IsSound text (fault f input) = GivenWithin input text
IsSound text (branch number inner) = Within inner text × (nat_lt 0 number ≡ true)
IsSound text (reflog query own inner) = Within own text × Within inner text
IsSound text (sibling which own inner) = Within own text × Within inner text
IsSound text (date meaning own inner) = Within own text × Within inner text
IsSound text unescaped = HasEscape text
IsSound text _ = Unit {0}

abbrev pub AllSound : (text : List ℕ) → List Piece → Type 0
AllSound text [] = Unit {0}
AllSound text (p ∷ ps) = IsSound text p × AllSound text ps

pub sound_append : (text : List ℕ) (ps qs : List Piece) → AllSound text ps → AllSound text qs → AllSound text (ps ++ qs)
sound_append text [] qs h k = k
sound_append text (p ∷ ps) qs h k = (h.0, sound_append text ps qs h.1 k)
