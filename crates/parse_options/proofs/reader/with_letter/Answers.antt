use Rattle.std.proofs.Common.{◌<◌, length, refl, below_more, arith}
use Rattle.std.proofs.lemmas.Option.{slice_get_read}
use Rattle.parse_options.specs.Line.{IsShort}
use Rattle.parse_options.proofs.Places.{clash, at_is, at_within}
use Rattle.parse_options.proofs.reader.with_letter.Goals as goal

pub returns-then-has_letter : goal.returns-then-has_letter
returns-then-has_letter g c =
    let choices = c.args.choices.now in (
      c.loop-place.place,
      slice_get_read choices (length choices) c.loop-place.place c.index-choices-place.result refl c.loop-place-test.true c.index-choices-place.is,
      c.has_letter.ensures.0 c.if-has_letter.true,
    )

pub loop-place-preserved : goal.loop-place-preserved
loop-place-preserved g c =
    below_more _ _ c.loop-place.invariant (λ h. clash _
    (c.has_letter.ensures.1 (at_is (λ x. IsShort x c.args.letter) c.args.choices.now c.loop-place.place c.index-choices-place.result c.index-choices-place.is h))
    c.if-has_letter.false)

pub returns : goal.returns
returns g c = λ choice h.
    let within : h.0 < length c.args.choices.now = at_within (λ x. IsShort x c.args.letter) c.args.choices.now h.0 (choice, h.1, h.2) in
    c.loop-place.invariant h.0 (omega (arith, c.loop-place-test.false)) (choice, h.1, h.2)
