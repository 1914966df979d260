-- Where the lines of a file `packed-refs` are (git-pack-refs; gitrepository-layout, "packed-refs").
use Rattle.std.specs.Prelude.{◌≡◌, ℕ, List, [], ◌∷◌, Bool, true, Option, None, drop}
use Rattle.std.specs.Cmp.Lexicographic.{slice_cmp}
use Rattle.std.specs.Coded.{→_prop}
use Rattle.std.specs.List.{AllByRecursion}
use Rattle.std.specs.List.Sorted.{IsStrictlySortedBy, IsStrictlySortedBy-prop}
use Rattle.std.specs.Ordering.{nat_cmp}
use Rattle.std.specs.declared.cmp.Ordering.{Ordering}
use Rattle.std.specs.declared.cmp.Ordering.TheVariants.{Less}
use Rattle.gix_ref_text.specs.Lines.{first_part, lines}
use Rattle.gix_ref_text.specs.Loose.{Says}
use Rattle.gix_ref_text.specs.Packed.{told_by, peeled_first, first_of, packed_says}

-- What the first of some lines says, if it tells of the name; otherwise what others say.
abbrev pub first_says : List (List ℕ) → List ℕ → Option Says → Option Says
first_says [] name others = others
first_says (line ∷ rest) name others = first_of (told_by line name) (peeled_first rest) others

-- The name in the line `ID NAME` at a place.
abbrev pub name_at : List ℕ → ℕ → List ℕ
name_at bytes place = drop 41 (first_part (lines (drop place bytes)))

-- What the first of the lines at some places says that tells of a name, or else what others say.
abbrev pub places_say : List ℕ → List ℕ → List ℕ → Option Says → Option Says
places_say bytes [] name others = others
places_say bytes (place ∷ places) name others = first_says (lines (drop place bytes)) name (places_say bytes places name others)

-- How the names in the lines at two places compare, byte by byte.
abbrev pub compare_at : List ℕ → ℕ → ℕ → Ordering
compare_at bytes p q = slice_cmp nat_cmp (name_at bytes p) (name_at bytes q)

-- The name in the line at each place is less than the names in the lines at the places after it.
abbrev pub AreSorted : List ℕ → List ℕ → Type 0
AreSorted bytes places = IsStrictlySortedBy (compare_at bytes) places

-- The lines at some places say of each name what the file says.
abbrev pub AreAll : List ℕ → List ℕ → Type 0
AreAll bytes places = (name : List ℕ) → packed_says bytes name ≡ places_say bytes places name None

-- If is_sorted is set, the lines at some places are sorted.
abbrev pub SaysSorted : List ℕ → List ℕ → Bool → Type 0
SaysSorted bytes places is_sorted = is_sorted ≡ true → AreSorted bytes places

-- There is at most one proof of SaysSorted.
pub SaysSorted-prop : (bytes places : List ℕ) (is_sorted : Bool) → IsProp (SaysSorted bytes places is_sorted)
SaysSorted-prop bytes places is_sorted = →_prop (IsStrictlySortedBy-prop (compare_at bytes) places)

-- Whatever name is greater than last is greater than the name in the line at each place.
abbrev pub AreUpTo : List ℕ → List ℕ → List ℕ → Type 0
AreUpTo bytes places last = AllByRecursion (λ p. (name : List ℕ) → slice_cmp nat_cmp last name ≡ Less → slice_cmp nat_cmp (name_at bytes p) name ≡ Less) places

-- The bytes rest are the end of bytes.
abbrev pub IsEnd : List ℕ → List ℕ → Type 0
IsEnd bytes rest = (n : ℕ) × (rest ≡ drop n bytes)

-- The bytes rest are the end of bytes, and say of each name what bytes say.
pub record IsTold (bytes rest : List ℕ) : Type 0 where
  pub end : IsEnd bytes rest
  pub same : (name : List ℕ) → packed_says bytes name ≡ packed_says rest name

-- The name is that of the first line of bytes, and rest is the end of bytes. Of each name, bytes
-- say what the first line says, or else what rest says.
pub record IsRecord (bytes name rest : List ℕ) : Type 0 where
  pub named : name ≡ drop 41 (first_part (lines bytes))
  pub end : IsEnd bytes rest
  pub says : (n : List ℕ) → packed_says bytes n ≡ first_says (lines bytes) n (packed_says rest n)

-- The bytes rest are the end of bytes. Of each name, bytes say what the lines at places say, or
-- else what rest says. If is_sorted is set, the names in these lines rise, and none is greater than
-- last.
pub record IsRead (bytes rest places : List ℕ) (is_sorted : Bool) (last : List ℕ) : Type 0 where
  pub end : IsEnd bytes rest
  pub says : (name : List ℕ) → packed_says bytes name ≡ places_say bytes places name (packed_says rest name)
  pub sorted : SaysSorted bytes places is_sorted
  pub up_to : is_sorted ≡ true → AreUpTo bytes places last
