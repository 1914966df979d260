use Rattle.std.proofs.Common.{None, sym, ap, ◌∙◌}
use Rattle.std.specs.Option.{option_map}
use Rattle.gix_ref_text.specs.Lines.{lines}
use Rattle.gix_ref_text.specs.Said.{packed_said}
use Rattle.gix_ref_text.specs.Snapshot.{first_says}
use Rattle.gix_ref_text.proofs.Places.{found-from, missed-from}
use Rattle.gix_ref_text.proofs.snapshot.find_first.Goals as goal

pub returns-in-Some : goal.returns-in-Some
returns-in-Some c =
    let told = c.first_told.ensures ∙ ap (λ b. first_says (lines b) c.args.name.now None) c.bytes_from.ensures in
    sym (
    c.loop-place.invariant
    ∙ found-from c.args.bytes.now c.args.places.now c.args.name.now c.loop-place.place-index c.loop-place-test.true (packed_said c.in-Some.found)
    (sym told ∙ ap (λ o. option_map packed_said o) c.in-Some.is)
    )

pub loop-place-preserved : goal.loop-place-preserved
loop-place-preserved c =
    let told = c.first_told.ensures ∙ ap (λ b. first_says (lines b) c.args.name.now None) c.bytes_from.ensures in
    c.loop-place.invariant
    ∙ missed-from c.args.bytes.now c.args.places.now c.args.name.now c.loop-place.place-index c.loop-place-test.true
    (sym told ∙ ap (λ o. option_map packed_said o) c.in_default.is)
