use Rattle.std.proofs.Common.{◌-◌, ◌==◌, sym, eq-eqb, length, slice_index, arith}
use Rattle.gix_spec.specs.Marks.{dash}
use Rattle.gix_spec.specs.DescribeText.{last_dash}
use Rattle.gix_spec.proofs.Places.{greatest_below-is, greatest_below-none}
use Rattle.gix_spec.proofs.spec.parse.describe_text.last_dash.Goals as goal

pub returns-then-text-place-eq45-clause-place : goal.returns-then-text-place-eq45-clause-place
unfolding last_dash
returns-then-text-place-eq45-clause-place c =
    let text = c.args.text.now in
    let place = c.loop-place.place - 1 in
    sym (greatest_below-is (λ k. slice_index text k == dash) (length text) place (omega arith) (eq-eqb _ _ c.if-text-place-eq45.true) (λ j low high. c.loop-place.invariant j (omega (arith, low)) high))

pub returns-clause-place : goal.returns-clause-place
unfolding last_dash
returns-clause-place c =
    let text = c.args.text.now in
    sym (greatest_below-none (λ k. slice_index text k == dash) (length text) (λ j high. c.loop-place.invariant j (omega (arith, c.loop-place-test.false)) high))
