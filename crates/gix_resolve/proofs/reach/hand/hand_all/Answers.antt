use Rattle.std.below.core.proofs.iter.Serving.{as_err}
use Rattle.std.proofs.Common.{◌∙◌, sym, subst, get_or, ◌<◌, arith}
use Rattle.gix_revwalk.specs.Number.{place_in}
use Rattle.gix_merge_base.specs.Marks.{marks_of}
use Rattle.gix_merge_base.specs.PaintQueue.{marks_at, queued_ids}
use Rattle.gix_resolve.proofs.ReachGives.{gives-step, gives_as}
use Rattle.gix_merge_base.proofs.Listed.{in-item}
use Rattle.gix_merge_base.proofs.Numbered.{item-listed, same-len}
use Rattle.gix_revwalk.specs.Graph.{held_len}
use Rattle.gix_resolve.specs.ReachWalk.{IsRight}
use Rattle.gix_resolve.proofs.reach.hand.hand_all.Goals as goal

pub hand-requires-clause-number : goal.hand-requires-clause-number
hand-requires-clause-number g c =
    let within : place_in (get_or c.args.numbers.now c.loop-number.number-index (record { 0 = 0 })) < held_len c.args.graph.now = in-item c.args.graph.now c.args.numbers.now c.loop-number.number-index _ c.requires.numbers c.loop-number-test.true in
    let len = same-len c.args.graph.now c.loop-number.graph c.loop-number.invariant.ids in
    omega arith

pub hand-requires-clause-right : goal.hand-requires-clause-right
hand-requires-clause-right g c = subst (λ s. IsRight (g.S.Find.history s) c.loop-number.graph c.loop-number.walk) (sym c.loop-number.invariant.source) c.loop-number.invariant.right

pub hand-requires-clause-has : goal.hand-requires-clause-has
hand-requires-clause-has g c = rw c.loop-number.invariant.source (c.requires.has _ (item-listed c.args.graph.now c.loop-number.graph c.loop-number.invariant.ids c.args.numbers.now c.loop-number.number-index _ c.loop-number-test.true))

pub loop-number-preserved : goal.loop-number-preserved
loop-number-preserved g c =
    let h = g.S.Find.history c.args.graph.now.source in
    record {
      right = rw c.loop-number.invariant.source at c.in_ok-hand.ensures.right;
      handed =
          let given = rw c.loop-number.invariant.source at c.in_ok-hand.ensures.handed in
          let one = gives_as c.loop-number.invariant.sides.0 given in
          gives-step h c.args.walk.now.both (marks_of c.args.marks) c.args.graph.now c.loop-number.graph c.loop-number.invariant.ids c.args.numbers.now c.loop-number.number-index _ c.loop-number-test.true
          (marks_at c.args.graph.now) (marks_at c.loop-number.graph) (marks_at c.hand.new.graph) (queued_ids c.args.graph.now c.args.walk.now.front) (queued_ids c.loop-number.graph c.loop-number.walk.front) (queued_ids c.hand.new.graph c.hand.new.walk.front)
          c.loop-number.invariant.handed one;
      sides = (c.hand.ensures.sides.0 ∙ c.loop-number.invariant.sides.0, c.hand.ensures.sides.1 ∙ c.loop-number.invariant.sides.1);
      ids = c.hand.ensures.ids ∙ c.loop-number.invariant.ids;
      source = c.hand.ensures.source ∙ c.loop-number.invariant.source;
    }

pub offset_bounds-numbers-number-index : goal.offset_bounds-numbers-number-index
offset_bounds-numbers-number-index g c = record { fits = omega arith }

pub returns-in_err-hand-clause-right : goal.returns-in_err-hand-clause-right
returns-in_err-hand-clause-right g c = rw (as_err c.from_residual.ensures.0).1 tt

pub returns-in_err-hand-clause-handed : goal.returns-in_err-hand-clause-handed
returns-in_err-hand-clause-handed g c = rw (as_err c.from_residual.ensures.0).1 tt
