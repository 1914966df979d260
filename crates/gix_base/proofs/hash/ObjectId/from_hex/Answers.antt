use Rattle.std.proofs.Common.{IsOk, sym, ◌∙◌, refl, arith}
use Rattle.hex.specs.Hex.{decode_sized}
use Rattle.hex.proofs.HexLemmas.{IsOk-decode_sized, decode_sized-twice}
use Rattle.gix_base.proofs.HexBack.{id_shows}
use Rattle.gix_base.proofs.Other.{AreDigits-other, HasOther-refused}
use Rattle.gix_base.proofs.hash.ObjectId.from_hex.Goals as goal

pub returns-in-Ok-clause-read : goal.returns-in-Ok-clause-read
returns-in-Ok-clause-read c =
    let ok : IsOk (decode_sized c.args.text.now 20) = rw (sym c.from_hex.ensures ∙ c.in-Ok.is) refl in
    (λ _. (IsOk-decode_sized c.args.text.now 20).0 ok, λ _. refl)

pub returns-in-Err-clause-read : goal.returns-in-Err-clause-read
returns-in-Err-clause-read c =
    let is = sym c.from_hex.ensures ∙ c.in-Err.is in
    (λ h. cc h, λ h. let ok : IsOk (decode_sized c.args.text.now 20) = (IsOk-decode_sized c.args.text.now 20).1 h in rw is at ok)

pub returns-in-Ok-clause-shows : goal.returns-in-Ok-clause-shows
returns-in-Ok-clause-shows c =
    id_shows c.args.text.now c.in-Ok.bytes (sym c.from_hex.ensures ∙ c.in-Ok.is)

pub returns-in-Ok-clause-not_hex : goal.returns-in-Ok-clause-not_hex
returns-in-Ok-clause-not_hex c =
    let ok : IsOk (decode_sized c.args.text.now 20) = rw (sym c.from_hex.ensures ∙ c.in-Ok.is) refl in
    let digits = ((IsOk-decode_sized c.args.text.now 20).0 ok).1 in
    (λ h. cc h, λ h. absurd (AreDigits-other c.args.text.now digits h.1))

pub returns-in-Err-clause-not_hex : goal.returns-in-Err-clause-not_hex
returns-in-Err-clause-not_hex c =
    let is = sym c.from_hex.ensures ∙ c.in-Err.is in
    (λ _. (omega arith, HasOther-refused c.args.text.now 20 c.in-Err.field-0 (omega arith) is), λ _. refl)

pub returns-in-Ok-clause-wrong_length : goal.returns-in-Ok-clause-wrong_length
returns-in-Ok-clause-wrong_length c = (λ h. cc h, λ h. absurd (h c.if-text-ne40.false))

pub returns-in-Ok-clause-only : goal.returns-in-Ok-clause-only
returns-in-Ok-clause-only c = tt

pub returns-in-Ok-clause-value : goal.returns-in-Ok-clause-value
returns-in-Ok-clause-value c =
    let is = sym (decode_sized-twice c.args.text.now 20 c.if-text-ne40.false) ∙ sym c.from_hex.ensures ∙ c.in-Ok.is in
    rw is refl
