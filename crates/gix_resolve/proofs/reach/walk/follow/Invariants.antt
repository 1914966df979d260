use Rattle.std.proofs.Common.{◌≡◌, ◌+◌, ◌*◌, ◌-◌, ◌++◌, length}
use Rattle.gix_revwalk.specs.History.{IsAncestorOfOne}
use Rattle.gix_merge_base.specs.PaintSteps.{total}
use Rattle.gix_merge_base.specs.PaintQueue.{marks_at, queued_ids}
use Rattle.gix_resolve.specs.ReachSides.{Walked}
use Rattle.gix_resolve.specs.ReachWalk.{IsRight}
use Rattle.gix_resolve.specs.Taken.{TakesOnly}
use Rattle.gix_resolve.proofs.ListAfter.{AfterWalks}
use Rattle.gix_resolve.proofs.ReachSteps.{keys}
use Rattle.gix_resolve.proofs.reach.walk.follow.Given as goal

abbrev pub invariant-loop-number : goal.invariant-loop-number
invariant-loop-number g l = record {
  right : IsRight (g.S.Find.history l.fn.graph.source) l.graph l.walk;
  walked : Walked (g.S.Find.history l.fn.graph.source) l.fn.first l.fn.second l.fn.both (marks_at l.graph) (queued_ids l.graph l.walk.front) l.walk.least;
  both : l.walk.both ≡ l.fn.both;
  taken : TakesOnly (IsAncestorOfOne (g.S.Find.history l.fn.graph.source) (l.fn.first ++ l.fn.second)) l.fn.graph l.graph;
  after : AfterWalks g.S.Find.history g.S.Find.fault_count l.fn.graph l.graph;
}

abbrev pub decreases-loop-number : goal.decreases-loop-number
decreases-loop-number g l = length l.walk.front + (3 * length (g.S.Find.history l.graph.source) - total (keys (g.S.Find.history l.graph.source)) (marks_at l.graph))
