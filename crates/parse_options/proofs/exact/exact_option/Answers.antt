use Rattle.std.proofs.Common.{◌<◌, length, refl, below_more, arith}
use Rattle.std.proofs.lemmas.Option.{slice_get_read}
use Rattle.parse_options.specs.Exact.{Held, Reads}
use Rattle.parse_options.proofs.Places.{at_is, at_within}
use Rattle.parse_options.proofs.exact.exact_option.Goals as goal

pub returns-in-Some : goal.returns-in-Some
returns-in-Some g c =
    let options = c.args.options.now in record {
      place = c.loop-place.place;
      option = c.index-options-place.result;
      found = slice_get_read options (length options) c.loop-place.place c.index-options-place.result refl c.loop-place-test.true c.index-options-place.is;
      reads = c.in-Some.ensures;
      first = c.loop-place.invariant;
      is_key = refl;
    }

pub loop-place-preserved : goal.loop-place-preserved
loop-place-preserved g c =
    below_more _ _ c.loop-place.invariant (λ h.
    let here = at_is (λ x. (held : Held) × Reads x c.args.word.now held) c.args.options.now c.loop-place.place c.index-options-place.result c.index-options-place.is h in
    c.in_default.ensures here.0 here.1)

pub returns : goal.returns
returns g c = λ place h.
    let within : place < length c.args.options.now = at_within (λ x. (held : Held) × Reads x c.args.word.now held) c.args.options.now place h in
    c.loop-place.invariant place (omega (arith, c.loop-place-test.false)) h
