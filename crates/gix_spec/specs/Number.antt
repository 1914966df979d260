-- Numbers in a text.
use Rattle.std.specs.Prelude.{ℕ, ◌==◌, ◌^◌, ◌&&◌, List, [], ◌∷◌, Option, Some, None, length, nat_lt, nat_le, if◌then◌else◌}
use Rattle.std.specs.Str.{all_ascii_digits}
use Rattle.std.specs.Str.Parse.{digits_value, without_leading_plus}
use Rattle.gix_spec.specs.Marks.{dash, plus, starts_with}

-- The number that decimal digits say, if a usize can hold it.
abbrev pub digits_number : List ℕ → Option ℕ
digits_number digits =
    if all_ascii_digits digits && nat_lt 0 (length digits) && nat_lt (digits_value 10 digits) (2 ^ 64) then Some (digits_value 10 digits)
    else None

-- The number that decimal digits say, if a usize can hold it. A plus sign may precede the digits.
unfoldable pub number_of : List ℕ → Option ℕ
number_of text = digits_number (without_leading_plus text)

-- A number with a minus sign or without one, by its digits.
pub data Signed : Type 0 where
  minus : ℕ → Signed
  plain : ℕ → Signed

-- The number after a minus sign, if an isize can hold it.
abbrev pub minus_by : Option ℕ → Option Signed
minus_by None = None
minus_by (Some n) = if nat_le n (2 ^ 63) then Some (minus n) else None

-- A number without a minus sign, if an isize can hold it.
abbrev pub plain_by : Option ℕ → Option Signed
plain_by None = None
plain_by (Some n) = if nat_lt n (2 ^ 63) then Some (plain n) else None

-- The number that text says after a minus sign. No second sign may follow.
abbrev pub behind_minus : (text : List ℕ) → Option Signed
behind_minus text = if starts_with plus text then None else minus_by (number_of text)

-- The number that a text says, if an isize can hold it. A sign may come first.
unfoldable pub signed_of : (text : List ℕ) → Option Signed
signed_of [] = None
signed_of (b ∷ rest) = if b == dash then behind_minus rest else plain_by (number_of (b ∷ rest))
