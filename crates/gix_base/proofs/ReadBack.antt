-- What an id prints reads back as it.
use Rattle.std.proofs.Common.{◌≡◌, ℕ, ◌%◌, List, length, refl, sym, ◌∙◌, arith}
use Rattle.std.specs.Str.{str_to_ascii_lowercase}
use Rattle.hex.specs.Hex.{lower_digits, IsBytes}
use Rattle.hex.proofs.HexLemmas.{length-encode_with, decode_of-encode_lower, decode_of-ok, decode_of-even}
use Rattle.gix_base.specs.Digits.{digits_of, bytes_of, AreDigits}
use Rattle.gix_base.specs.Hash.{id_text, IsId}
use Rattle.gix_base.specs.Laws.{IdsReadBack}
use Rattle.gix_base.specs.declared.hash.ObjectId.{ObjectId}
use Rattle.gix_base.proofs.HexBack.{encode-decode_pairs}

-- the digits of bytes say those bytes
pub bytes_of-digits_of : (bytes : List ℕ) → IsBytes bytes → bytes_of (digits_of bytes) ≡ bytes
bytes_of-digits_of bytes h = rw (decode_of-encode_lower bytes h) refl

-- they are digits
pub AreDigits-digits_of : (bytes : List ℕ) → IsBytes bytes → AreDigits (digits_of bytes)
AreDigits-digits_of bytes h = (decode_of-ok (digits_of bytes) bytes (decode_of-encode_lower bytes h)).1

-- and in lower case
pub lower-digits_of : (bytes : List ℕ) → IsBytes bytes → str_to_ascii_lowercase (digits_of bytes) ≡ digits_of bytes
lower-digits_of bytes h =
    let even : length (digits_of bytes) % 2 ≡ 0 = omega (arith, length-encode_with lower_digits bytes) in
    sym (encode-decode_pairs 0 (digits_of bytes) bytes (sym (decode_of-even (digits_of bytes) even) ∙ decode_of-encode_lower bytes h))

-- an id has 40 digits
pub length-id_text : (id : ObjectId) → IsId id → length (id_text id) ≡ 40
length-id_text id h = let twice = length-encode_with lower_digits id.0 in omega (arith, twice, h.0)

pub reads_back : IdsReadBack
reads_back id h =
    ((length-id_text id h, AreDigits-digits_of id.0 h.1), bytes_of-digits_of id.0 h.1)
