use Rattle.std.proofs.Common.{◌+◌, ◌*◌, ◌-◌, length}
use Rattle.gix_merge_base.specs.Front.{IsRight}
use Rattle.gix_merge_base.specs.PaintQueue.{marks_at, queued_ids, IsHeld}
use Rattle.gix_merge_base.proofs.AfterCalls.{AfterSteps}
use Rattle.gix_merge_base.proofs.Painting.{Painting}
use Rattle.gix_merge_base.proofs.PaintWalk.{IsWalk}
use Rattle.gix_merge_base.proofs.merge_base.sides.popped.Given as goal

abbrev pub invariant-loop-number : goal.invariant-loop-number
invariant-loop-number g l = record {
  walk : IsWalk (g.S.Find.history l.fn.graph.source) l.fn.first l.others (IsHeld l.fn.graph) (IsHeld l.graph) (marks_at l.graph) (queued_ids l.graph l.walk.front.queue) l.results.items l.pops;
  painting : Painting (g.S.Find.history l.fn.graph.source) l.fn.first l.others (marks_at l.graph) (queued_ids l.graph l.walk.front.queue) l.results.items l.seen;
  right : IsRight (g.S.Find.history l.fn.graph.source) l.graph l.walk.front;
  after : AfterSteps g.S.Find.history g.S.Find.fault_count l.fn.graph l.graph;
}

abbrev pub decreases-loop-number : goal.decreases-loop-number
decreases-loop-number g l = (1 + length l.others + 3 * length (g.S.Find.history l.graph.source)) - l.pops
