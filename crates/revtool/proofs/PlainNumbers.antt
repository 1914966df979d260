-- A text that is a number is UTF-8 and does not begin with a plus sign.
use Rattle.std.proofs.Common.{arith, eqb-true, refl, ◌≡◌, ◌≢◌, ℕ, zero, suc, Bool, true, false, List, [], ◌∷◌, ◌<◌, ◌==◌}
use Rattle.std.specs.Prelude.{drop, slice_index, if◌then◌else◌}
use Rattle.std.specs.Str.{IsAscii, IsUtf8}
use Rattle.std.specs.Str.Parse.{IsNumeral}
use Rattle.std.proofs.lemmas.Fmt.{IsAscii-from_digits}
use Rattle.std.proofs.lemmas.Str.{IsUtf8-from_ascii}
use Rattle.std.proofs.lemmas.Str.Parse.{tells_digits}
use Rattle.revtool.specs.Numbers.{IsTime, IsNumber}

-- A text of decimal digits is UTF-8, and its first byte is not a plus sign.
IsNumeral-plain : (text : List ℕ) → IsNumeral 10 text → IsUtf8 text × (slice_index text 0 ≢ 43)
IsNumeral-plain [] h = absurd (omega (arith, h.0))
IsNumeral-plain (c ∷ cs) h =
    let range = tells_digits.parts c cs h.1 in
    (IsUtf8-from_ascii (c ∷ cs) (IsAscii-from_digits (c ∷ cs) h.1), λ e. absurd (omega (arith, e, range.0.0)))

-- A text of digits after one ASCII byte other than a plus sign is UTF-8, and its first byte is not
-- a plus sign.
after_byte : (c : ℕ) (cs : List ℕ) → c < 128 → c ≢ 43 → IsNumeral 10 cs → IsUtf8 (c ∷ cs) × (slice_index (c ∷ cs) 0 ≢ 43)
after_byte c cs low other h = (IsUtf8-from_ascii (c ∷ cs) ascii, other)
  where
    ascii : IsAscii (c ∷ cs)
    ascii zero = low
    ascii (suc i) = IsAscii-from_digits cs h.1 i

pub IsNumber-plain : (text : List ℕ) → IsNumber text → IsUtf8 text × (slice_index text 0 ≢ 43)
IsNumber-plain text h = IsNumeral-plain text h.0

pub IsTime-plain : (text : List ℕ) → IsTime text → IsUtf8 text × (slice_index text 0 ≢ 43)
IsTime-plain [] h = absurd (omega (arith, h.0.0))
IsTime-plain (c ∷ cs) h = by (c == 45) refl h.0
  where
    by : (b : Bool) → (c == 45) ≡ b → IsNumeral 10 (if b then drop 1 (c ∷ cs) else c ∷ cs) → IsUtf8 (c ∷ cs) × (slice_index (c ∷ cs) 0 ≢ 43)
    by true e n = let minus = eqb-true c 45 e in after_byte c cs (omega (arith, minus)) (λ plus. absurd (omega (arith, minus, plus))) n
    by false e n = IsNumeral-plain (c ∷ cs) n
