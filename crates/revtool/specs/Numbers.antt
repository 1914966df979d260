-- The numbers in fields: a time and a generation number.
use Rattle.std.specs.Prelude.{ℕ, ◌<◌, ◌^◌, List, drop, slice_index, ◌==◌, if◌then◌else◌, FitsSigned}
use Rattle.std.specs.Int.{w64}
use Rattle.std.specs.Str.Parse.{IsNumeral, digits_value, signed_digits_value}

-- The text without its first byte if this byte is a minus sign; otherwise the whole text.
abbrev pub without_minus : List ℕ → List ℕ
without_minus text = if slice_index text 0 == 45 then drop 1 text else text

-- A text is a time if it consists of decimal digits after at most one minus sign, and an i64 holds
-- its number.
abbrev pub IsTime : List ℕ → Type 0
IsTime text = IsNumeral 10 (without_minus text) × FitsSigned w64 (signed_digits_value 10 text)

-- A text is a generation number if it consists of decimal digits, and a u32 holds its number.
abbrev pub IsNumber : List ℕ → Type 0
IsNumber text = IsNumeral 10 text × (digits_value 10 text < 2 ^ 32)
