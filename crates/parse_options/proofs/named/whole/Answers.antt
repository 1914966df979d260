use Rattle.std.proofs.Common.{true, false, ◌<◌, length, below_more, arith}
use Rattle.parse_options.specs.Names.{IsNamed, HasName}
use Rattle.parse_options.proofs.Places.{clash, at_found, at_is, at_within, both_forms}
use Rattle.parse_options.proofs.named.whole.Goals as goal

pub returns-then-has_name : goal.returns-then-has_name
returns-then-has_name g c =
    at_found (λ x. IsNamed x false c.args.name.now) c.args.choices.now c.loop-place.place c.index-choices-place.result
    c.loop-place-test.true c.index-choices-place.is (c.has_name.ensures.0 c.if-has_name.true)

pub returns-then-has_name-2 : goal.returns-then-has_name-2
returns-then-has_name-2 g c =
    at_found (λ x. IsNamed x true c.args.name.now) c.args.choices.now c.loop-place.place c.index-choices-place.result
    c.loop-place-test.true c.index-choices-place.is (c.has_name-in-loop-place.ensures.0 c.if-has_name-2.true)

pub loop-place-preserved : goal.loop-place-preserved
loop-place-preserved g c =
    let choices = c.args.choices.now in
    let name = c.args.name.now in
    let place = c.loop-place.place in
    let here = c.index-choices-place.result in
    below_more _ _ c.loop-place.invariant (both_forms (λ form. HasName choices name place form)
    (λ h. clash _ (c.has_name.ensures.1 (at_is (λ x. IsNamed x false name) choices place here c.index-choices-place.is h)) c.if-has_name.false)
    (λ h. clash _ (c.has_name-in-loop-place.ensures.1 (at_is (λ x. IsNamed x true name) choices place here c.index-choices-place.is h)) c.if-has_name-2.false))

pub returns : goal.returns
returns g c = λ place form h.
    let within : place < length c.args.choices.now = at_within (λ x. IsNamed x form c.args.name.now) c.args.choices.now place h in
    c.loop-place.invariant place (omega (arith, c.loop-place-test.false)) form h
