-- Hex digits and the bytes that they say: RFC 4648, section 8, "Base 16 Encoding".
use Rattle.std.specs.Prelude.{◌≡◌, ℕ, List, [], false, Any}
use Rattle.std.specs.List.{AllPass}
use Rattle.std.specs.Result.{result_unwrap_or}
use Rattle.hex.specs.Hex.{is_hex_digit, encode_lower, decode_of}

-- Each byte of the text is a hex digit: `0` to `9`, `a` to `f` or `A` to `F`.
abbrev pub AreDigits : List ℕ → Type 0
AreDigits text = AllPass is_hex_digit text

-- Some byte of the text is not a hex digit.
abbrev pub HasOther : List ℕ → Type 0
HasOther text = Any (λ byte. is_hex_digit byte ≡ false) text

-- The digits of some bytes: two for each byte, its high four bits first, in lower case.
abbrev pub digits_of : List ℕ → List ℕ
digits_of bytes = encode_lower bytes

-- The bytes that the digits of a text say, two digits for each byte, in either case. If the text is
-- not made of pairs of digits, it is the empty list.
abbrev pub bytes_of : List ℕ → List ℕ
bytes_of text = result_unwrap_or (decode_of text) []
