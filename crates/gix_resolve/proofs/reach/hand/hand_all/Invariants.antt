use Rattle.std.proofs.Common.{◌≡◌, take}
use Rattle.gix_revwalk.specs.Graph.{held_ids}
use Rattle.gix_merge_base.specs.Marks.{marks_of}
use Rattle.gix_resolve.specs.ReachSides.{Gives}
use Rattle.gix_merge_base.specs.PaintQueue.{marks_at, queued_ids, ids_at}
use Rattle.gix_resolve.specs.ReachWalk.{IsRight, SameSides}
use Rattle.gix_resolve.proofs.reach.hand.hand_all.Given as goal

abbrev pub invariant-loop-number : goal.invariant-loop-number
invariant-loop-number g l = record {
  right : IsRight (g.S.Find.history l.fn.graph.source) l.graph l.walk;
  handed : Gives (g.S.Find.history l.fn.graph.source) l.fn.walk.both (marks_of l.marks) (take l.number-index (ids_at l.fn.graph l.numbers)) (marks_at l.fn.graph) (queued_ids l.fn.graph l.fn.walk.front) (marks_at l.graph) (queued_ids l.graph l.walk.front);
  sides : SameSides l.fn.walk l.walk;
  ids : held_ids l.graph ≡ held_ids l.fn.graph;
  source : l.graph.source ≡ l.fn.graph.source;
}
