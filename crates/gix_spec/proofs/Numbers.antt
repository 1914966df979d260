-- Digits in a text, and the number that std reads there.
use Rattle.std.proofs.Common.{◌≡◌, ℕ, ◌<◌, ◌^◌, ◌&&◌, ◌==◌, List, [], ◌∷◌, Bool, true, false, cond, Some, None, length, drop, refl, arith, if◌then◌else◌}
use Rattle.std.specs.Prelude.{nat_lt}
use Rattle.std.proofs.lemmas.Bool.{ltb-true, lt-ltb, eqb-true}
use Rattle.std.proofs.lemmas.Str.{IsUtf8-from_ascii}
use Rattle.std.proofs.lemmas.Str.Ascii.{IsAscii-nil, IsAscii-cons}
use Rattle.std.proofs.lemmas.Str.Parse.{IsNumeralModel, numerals_by_value, tells_all_ascii_digits, digit_from_value}
use Rattle.std.specs.Str.{all_ascii_digits, IsUtf8, IsAscii}
use Rattle.std.specs.Str.Parse.{AllDigits, IsNumeral, digits_value, without_leading_plus}
use Rattle.gix_spec.specs.Number.{digits_number, number_of}

-- std's digits are ours
model : IsNumeralModel (λ ds. all_ascii_digits ds ≡ true) (digits_value 10)
model = numerals_by_value _ tells_all_ascii_digits

-- digits that make a number, and other texts
pub digits_number-some : (ds : List ℕ) → IsNumeral 10 ds → digits_value 10 ds < 2 ^ 64 → digits_number ds ≡ Some (digits_value 10 ds)
digits_number-some ds h k = rw (model.from ds h.1, lt-ltb 0 (length ds) h.0, lt-ltb (digits_value 10 ds) (2 ^ 64) k) refl

none_where : (ds : List ℕ) (a b c : Bool) → all_ascii_digits ds ≡ a → nat_lt 0 (length ds) ≡ b → nat_lt (digits_value 10 ds) (2 ^ 64) ≡ c →
    (IsNumeral 10 ds × (digits_value 10 ds < 2 ^ 64) → ⊥) → (if a && b && c then Some (digits_value 10 ds) else None) ≡ None
none_where ds true true true h k l never = absurd (never ((ltb-true 0 (length ds) k, model.to ds h), ltb-true (digits_value 10 ds) (2 ^ 64) l))
none_where ds false b c h k l never = refl
none_where ds true false c h k l never = refl
none_where ds true true false h k l never = refl

pub digits_number-none : (ds : List ℕ) → (IsNumeral 10 ds × (digits_value 10 ds < 2 ^ 64) → ⊥) → digits_number ds ≡ None
digits_number-none ds never = none_where ds _ _ _ refl refl refl never

-- digits are ASCII
digits_ascii : (ds : List ℕ) → AllDigits 10 ds → IsAscii ds
digits_ascii [] h = IsAscii-nil
digits_ascii (c ∷ cs) h = let range = digit_from_value c h.0 in IsAscii-cons c cs (omega (arith, range)) (digits_ascii cs h.1)

plus_ascii : (b : ℕ) (bs : List ℕ) (p : Bool) → (b == 43) ≡ p → AllDigits 10 (drop (cond p 1 0) (b ∷ bs)) → IsAscii (b ∷ bs)
plus_ascii b bs true e h = let same : b ≡ 43 = eqb-true b 43 e in IsAscii-cons b bs (omega arith) (digits_ascii bs h)
plus_ascii b bs false e h = digits_ascii (b ∷ bs) h

number_ascii : (text : List ℕ) → IsNumeral 10 (without_leading_plus text) → IsAscii text
number_ascii [] h = IsAscii-nil
number_ascii (b ∷ bs) h = plus_ascii b bs (b == 43) refl h.1

-- a text that is not UTF-8 is no number
pub number_of-other : (text : List ℕ) → (IsUtf8 text → ⊥) → number_of text ≡ None
unfolding number_of
number_of-other text never = digits_number-none (without_leading_plus text) (λ h. never (IsUtf8-from_ascii text (number_ascii text h.0)))

pub number_of-some : (text : List ℕ) (n : ℕ) → (IsNumeral 10 (without_leading_plus text) × (digits_value 10 (without_leading_plus text) < 2 ^ 64)) × (n ≡ digits_value 10 (without_leading_plus text)) →
    number_of text ≡ Some n
unfolding number_of
number_of-some text n h = rw (digits_number-some (without_leading_plus text) h.0.0 h.0.1, h.1) refl

pub number_of-none : (text : List ℕ) → (IsNumeral 10 (without_leading_plus text) × (digits_value 10 (without_leading_plus text) < 2 ^ 64) → ⊥) → number_of text ≡ None
unfolding number_of
number_of-none text never = digits_number-none (without_leading_plus text) never
