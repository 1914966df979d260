-- What the digits of an id are.
use Rattle.std.proofs.Common.{◌≡◌, ℕ, ◌==◌, List, [], ◌∷◌, Bool, true, false, length, refl, arith}
use Rattle.std.proofs.lemmas.Bool.{eqb-true}
use Rattle.std.specs.List.{AllPass}
use Rattle.std.specs.Str.{str_to_ascii_lowercase}
use Rattle.hex.specs.Hex.{is_hex_digit}
use Rattle.gix_base.specs.Hash.{id_text, IsId}
use Rattle.gix_base.specs.declared.hash.ObjectId.{ObjectId}
use Rattle.gix_base.proofs.ReadBack.{length-id_text, AreDigits-digits_of, lower-digits_of}

-- forty hex digits, in lower case
pub record AreForty (text : List ℕ) : Type 0 where
  pub forty : length text ≡ 40
  pub digits : AllPass is_hex_digit text
  pub lower : str_to_ascii_lowercase text ≡ text

pub id_text-forty : (a : ObjectId) → IsId a → AreForty (id_text a)
id_text-forty a h = record { forty = length-id_text a h; digits = AreDigits-digits_of a.0 h.1; lower = lower-digits_of a.0 h.1 }

-- a byte that is no digit is none of them
apart : (b c : ℕ) → is_hex_digit b ≡ true → is_hex_digit c ≡ false → (same : Bool) → (b == c) ≡ same → same ≡ false
apart b c h k true e = let s : b ≡ c = eqb-true b c e in let t = rw s at h in cc
apart b c h k false e = refl

-- a digit is none of the marks
pub record IsPlain (b : ℕ) : Type 0 where
  pub no_dot : (b == 46) ≡ false
  pub no_colon : (b == 58) ≡ false
  pub no_at : (b == 64) ≡ false
  pub no_caret : (b == 94) ≡ false
  pub no_tilde : (b == 126) ≡ false

pub plain : (b : ℕ) → is_hex_digit b ≡ true → IsPlain b
plain b h = record {
  no_dot = apart b 46 h refl (b == 46) refl;
  no_colon = apart b 58 h refl (b == 58) refl;
  no_at = apart b 64 h refl (b == 64) refl;
  no_caret = apart b 94 h refl (b == 94) refl;
  no_tilde = apart b 126 h refl (b == 126) refl;
}

-- the first of them
pub record HasFirst (text : List ℕ) : Type 0 where
  pub first : ℕ
  pub others : List ℕ
  pub split : text ≡ first ∷ others
  pub is_plain : IsPlain first

pub first_of : (text : List ℕ) → length text ≡ 40 → AllPass is_hex_digit text → HasFirst text
first_of [] h d = cc
first_of (b ∷ rest) h d =
    record { first = b; others = rest; split = refl; is_plain = plain b (d 0 0 (omega arith)) }
