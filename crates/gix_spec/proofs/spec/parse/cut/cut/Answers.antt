use Rattle.std.proofs.Common.{◌≡◌, sym, ◌∙◌, true, length, arith}
use Rattle.gix_spec.specs.Cut.{after_dot, ends_name, cut_of}
use Rattle.gix_spec.proofs.Places.{least_from-is}
use Rattle.gix_spec.proofs.spec.parse.cut.cut.Goals as goal

pub returns-then-ends_name-clause-place : goal.returns-then-ends_name-clause-place
unfolding cut_of
returns-then-ends_name-clause-place c =
    let text = c.args.text.now in
    let place = c.loop-place.place in
    let found : ends_name text (after_dot text place) place ≡ true =
    rw c.loop-place.invariant.start at (sym c.ends_name.ensures ∙ c.if-ends_name.true) in
    sym (least_from-is (λ k. ends_name text (after_dot text k) k) (length text) 0 place (record {
      low = omega arith;
      high = omega (arith, c.loop-place.auto.place-end);
      none = λ j low before. c.loop-place.invariant.none j before;
      found = λ within. found;
    }))

pub returns-clause-place : goal.returns-clause-place
unfolding cut_of
returns-clause-place c =
    let text = c.args.text.now in
    sym (least_from-is (λ k. ends_name text (after_dot text k) k) (length text) 0 (length text) (record {
      low = omega arith;
      high = omega arith;
      none = λ j low before. c.loop-place.invariant.none j (omega (arith, c.loop-place-test.false));
      found = λ within. absurd (omega arith);
    }))
