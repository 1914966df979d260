-- Numbers as decimal digits.
use Rattle.std.specs.Prelude.{ℕ, ◌+◌, ◌-◌, ◌*◌, ◌==◌, Bool, ◌&&◌, List, [], ◌∷◌, length, drop, slice_index, nat_lt, ℤ, pos, neg_ℤ, if◌then◌else◌}
use Rattle.std.specs.Char.{is_ascii_digit}
use Rattle.std.specs.List.{list_all}

-- Whether a text is one or more digits.
unfoldable pub is_number : List ℕ → Bool
is_number text = nat_lt 0 (length text) && list_all is_ascii_digit text

-- The number that some digits make after the digits of n.
unfoldable pub number_after : ℕ → List ℕ → ℕ
number_after n [] = n
number_after n (b ∷ bs) = number_after (n * 10 + (b - 48)) bs

-- The number that digits make, of any size.
abbrev pub number_of : List ℕ → ℕ
number_of digits = number_after 0 digits

-- Whether a text is digits after an optional minus.
abbrev pub is_integer : List ℕ → Bool
is_integer text = is_number (if slice_index text 0 == 45 then drop 1 text else text)

-- The integer that such a text makes.
abbrev pub integer_of : List ℕ → ℤ
integer_of text =
    if slice_index text 0 == 45 then neg_ℤ (pos (number_of (drop 1 text))) else pos (number_of text)
