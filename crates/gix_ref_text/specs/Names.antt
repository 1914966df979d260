-- What the name of a reference is: git-check-ref-format, "Description", with --allow-onelevel.
use Rattle.std.specs.Prelude.{ℕ, List, [], ◌∷◌, Bool, false, not, ◌==◌, ◌&&◌, ◌||◌, nat_lt, nat_eq, length, codes}
use Rattle.std.specs.List.{list_all, starts_with, ends_with}
use Rattle.std.specs.Cmp.Lexicographic.{pointwise}
use Rattle.gix_ref_text.specs.Lines.{parts}

-- A byte may be in a name: it is no control character, no blank and none of `*:?[\^~`.
abbrev pub is_plain : ℕ → Bool
is_plain b = nat_lt 32 b && not (b == 127) && not (b == 42) && not (b == 58) && not (b == 63) && not (b == 91) && not (b == 92) && not (b == 94) && not (b == 126)

-- In a text after a byte last, some byte first is followed by a byte second.
abbrev pub has_pair : ℕ → ℕ → ℕ → List ℕ → Bool
has_pair first second last [] = false
has_pair first second last (b ∷ bs) = (last == first && b == second) || has_pair first second b bs

-- A part between slashes is not empty, does not begin with a dot and does not end with `.lock`.
abbrev pub is_part : List ℕ → Bool
is_part part = not (length part == 0) && not (starts_with nat_eq part (codes ".")) && not (ends_with nat_eq part (codes ".lock"))

-- A text is the name of a reference. It may have one level only, as `HEAD` has.
abbrev pub is_name : List ℕ → Bool
is_name name = list_all is_plain name && not (has_pair 46 46 0 name) && not (has_pair 64 123 0 name)
    && list_all is_part (parts 47 name) && not (ends_with nat_eq name (codes ".")) && not (pointwise nat_eq name (codes "@"))
