use Rattle.gix_merge_base.specs.PaintQueue.{marks_at, queued_ids}
use Rattle.gix_merge_base.specs.ReduceSteps.{AreMetBefore}
use Rattle.gix_merge_base.proofs.merge_base.reduction.left_from.Given as goal

abbrev pub invariant-loop-i : goal.invariant-loop-i
invariant-loop-i g l = AreMetBefore (marks_at l.graph) (queued_ids l.graph l.order) l.i
