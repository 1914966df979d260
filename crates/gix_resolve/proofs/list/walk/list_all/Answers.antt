use Rattle.std.below.core.proofs.iter.Serving.{as_err}
use Rattle.std.proofs.Common.{arith}
use Rattle.std.proofs.Common.{◌∙◌}
use Rattle.gix_merge_base.specs.PaintQueue.{ids_at}
use Rattle.gix_resolve.proofs.ListMarks.{in-loop}
use Rattle.gix_resolve.proofs.ListWalks.{added-step}
use Rattle.gix_resolve.proofs.list.walk.list_all.Goals as goal

pub list-requires-clause-number : goal.list-requires-clause-number
list-requires-clause-number g c = in-loop c.args.graph.now c.loop-number.graph c.loop-number.invariant.ids c.args.numbers.now c.loop-number.number-index _ c.requires.numbers c.loop-number-test.true

pub loop-number-preserved : goal.loop-number-preserved
loop-number-preserved g c = record {
  marked = c.in_ok-list.ensures.marked;
  added = added-step c.args.graph.now c.loop-number.graph c.loop-number.invariant.ids c.args.numbers.now c.loop-number.number-index _ c.loop-number-test.true
      (ids_at c.args.graph.now c.args.listed.now.items) (ids_at c.loop-number.graph c.loop-number.listed.items) (ids_at c.list.new.graph c.list.new.listed.items)
      c.loop-number.invariant.added c.in_ok-list.ensures.added;
  ids = c.in_ok-list.ensures.ids ∙ c.loop-number.invariant.ids;
  source = c.in_ok-list.ensures.source ∙ c.loop-number.invariant.source;
}

pub offset_bounds-numbers-number-index : goal.offset_bounds-numbers-number-index
offset_bounds-numbers-number-index g c = record { fits = omega arith }

pub returns-in_err-list-clause-marked : goal.returns-in_err-list-clause-marked
returns-in_err-list-clause-marked g c = rw (as_err c.from_residual.ensures.0).1 tt

pub returns-in_err-list-clause-added : goal.returns-in_err-list-clause-added
returns-in_err-list-clause-added g c = rw (as_err c.from_residual.ensures.0).1 tt
