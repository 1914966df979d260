use Rattle.std.proofs.Common.{take}
use Rattle.gix_revwalk.specs.Walks.{HoldsMore}
use Rattle.gix_merge_base.specs.Marks.{marks_of}
use Rattle.gix_resolve.specs.ReachSides.{Gives}
use Rattle.gix_merge_base.specs.PaintQueue.{marks_at, queued_ids}
use Rattle.gix_resolve.specs.ReachWalk.{IsRight, SameSides}
use Rattle.gix_resolve.proofs.ListAfter.{AfterWalks}
use Rattle.gix_resolve.proofs.reach.walk.begin_all.Given as goal

abbrev pub invariant-loop-id : goal.invariant-loop-id
invariant-loop-id g l = record {
  right : IsRight (g.S.Find.history l.fn.graph.source) l.graph l.walk;
  handed : Gives (g.S.Find.history l.fn.graph.source) l.fn.walk.both (marks_of l.marks) (take l.id-index l.ids) (marks_at l.fn.graph) (queued_ids l.fn.graph l.fn.walk.front) (marks_at l.graph) (queued_ids l.graph l.walk.front);
  sides : SameSides l.fn.walk l.walk;
  taken : HoldsMore (g.S.Find.history l.fn.graph.source) l.ids l.fn.graph l.graph;
  after : AfterWalks g.S.Find.history g.S.Find.fault_count l.fn.graph l.graph;
}
