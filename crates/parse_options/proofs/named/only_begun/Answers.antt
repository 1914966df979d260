use Rattle.std.proofs.Common.{◌+◌, true, false, sym, ap, ◌∙◌, subst, arith}
use Rattle.parse_options.specs.Found.{also}
use Rattle.parse_options.specs.Names.{IsBegun, Begins}
use Rattle.parse_options.proofs.Places.{Tells, Below, here_at, next_tells, one_is}
use Rattle.parse_options.proofs.named.only_begun.Goals as goal

pub loop-place-preserved : goal.loop-place-preserved
loop-place-preserved g c =
    let choices = c.args.choices.now in
    let name = c.args.name.now in
    let place = c.loop-place.place in
    let here = c.index-choices-place.result in
    subst (λ f. Tells (Below (λ k h. Begins choices name k h) (place + 1)) f)
    (sym (c.also-found-in-loop-place.ensures ∙ ap (λ f. also f c.has_beginning-in-loop-place.result place true) c.also-found.ensures))
    (next_tells (λ k h. Begins choices name k h) place c.loop-place.found c.has_beginning.result c.has_beginning-in-loop-place.result
    (here_at (λ x. IsBegun x false name) choices place here c.has_beginning.result c.loop-place-test.true c.index-choices-place.is c.has_beginning.ensures)
    (here_at (λ x. IsBegun x true name) choices place here c.has_beginning-in-loop-place.result c.loop-place-test.true c.index-choices-place.is c.has_beginning-in-loop-place.ensures)
    c.loop-place.invariant)

pub returns : goal.returns
returns g c =
    rw c.one.ensures (one_is c.args.choices.now c.args.name.now c.loop-place.place c.loop-place.found (omega (arith, c.loop-place-test.false)) c.loop-place.invariant)
