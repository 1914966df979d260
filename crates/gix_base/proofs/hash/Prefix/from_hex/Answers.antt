use Rattle.std.proofs.Common.{◌≡◌, Err, ◌∙◌, refl, arith, map, inl, inr, ap}
use Rattle.std.proofs.lemmas.Result.{err_from_is_err_and}
use Rattle.std.specs.Char.{to_ascii_lowercase}
use Rattle.gix_base.specs.Hash.{padded, id_text}
use Rattle.gix_base.specs.Digits.{HasOther}
use Rattle.gix_base.specs.declared.hash.HexError.TheVariants.{NotHex}
use Rattle.gix_base.proofs.HexBack.{prefix_zeros, digits_from_padded}
use Rattle.gix_base.proofs.Other.{AreDigits-other, HasOther-padded, IsBytes-bytes_of}
use Rattle.gix_base.proofs.hash.Prefix.from_hex.Goals as goal

-- forty digits are refused only for a byte that is none
is_not_hex : (c : goal.After-from_residual) → c.in_err-id.field-0.0 ≡ NotHex
is_not_hex c =
    elim c.in_err-id.ensures.only [
      | inl wrong ↦ absurd (c.in_err-id.ensures.wrong_length.0 (ap Err wrong) c.fill_up.ensures.len)
      | inr other ↦ other
    ]

-- and that is passed on
refusal : (c : goal.After-from_residual) → c.from_residual.result ≡ Err NotHex
refusal c =
    let p = err_from_is_err_and c.from_residual.result c.from_residual.ensures.1 in
    p.1 ∙ ap Err (p.2 ∙ is_not_hex c)

pub returns-in_err-id-clause-only : goal.returns-in_err-id-clause-only
returns-in_err-id-clause-only c = rw (refusal c) (λ e. cc e)

-- the byte stands in the text, not in what filled it up
other : (c : goal.After-from_residual) → HasOther c.args.text.now
other c =
    let h = (c.in_err-id.ensures.not_hex.0 (ap Err (is_not_hex c))).1 in
    HasOther-padded c.args.text.now (rw (c.fill_up.ensures.value) at h)

pub returns-in_err-id-clause-not_hex : goal.returns-in_err-id-clause-not_hex
returns-in_err-id-clause-not_hex c = rw (refusal c) (λ _. (omega arith, omega arith, other c), λ _. refl)

pub returns-in_err-id-clause-read : goal.returns-in_err-id-clause-read
returns-in_err-id-clause-read c =
    rw (refusal c) (λ h. cc h, λ h. absurd (AreDigits-other c.args.text.now h.2 (other c)))

pub invariant_of-result : goal.invariant_of-result
invariant_of-result c =
    let value = c.in_ok-id.ensures.value in
    let shows : id_text c.in_ok-id.id ≡ map to_ascii_lowercase (padded c.args.text.now) = rw (c.fill_up.ensures.value) at c.in_ok-id.ensures.shows in
    record {
      at_least = omega arith;
      at_most = omega arith;
      bytes = rw value (IsBytes-bytes_of c.fill_up.result);
      zeros = prefix_zeros c.args.text.now (id_text c.in_ok-id.id) shows;
    }

pub returns-clause-read : goal.returns-clause-read
returns-clause-read c =
    let digits = (c.in_ok-id.ensures.read.0 refl).1 in
    (λ _. (omega arith, omega arith, digits_from_padded c.args.text.now (rw (c.fill_up.ensures.value) at digits)), λ _. refl)

pub returns-then-text-gt40-clause-too_long : goal.returns-then-text-gt40-clause-too_long
returns-then-text-gt40-clause-too_long c = (λ _. omega arith, λ _. refl)

pub returns-then-text-gt40-clause-not_hex : goal.returns-then-text-gt40-clause-not_hex
returns-then-text-gt40-clause-not_hex c = (λ h. cc h, λ h. absurd (omega (arith, h.1)))

pub returns-then-text-gt40-clause-only : goal.returns-then-text-gt40-clause-only
returns-then-text-gt40-clause-only c = λ e. cc e

pub returns-then-text-gt40-clause-too_short : goal.returns-then-text-gt40-clause-too_short
returns-then-text-gt40-clause-too_short c = (λ h. cc h, λ h. absurd (omega (arith, h)))
