use Rattle.std.proofs.Common.{◌≡◌}
use Rattle.gix_base.specs.declared.hash.ObjectId.{ObjectId}
use Rattle.gix_revwalk.specs.History.{is_one_of}
use Rattle.gix_merge_base.specs.Front.{IsQueued, CountsLeft}
use Rattle.gix_merge_base.specs.PaintQueue.{marks_at, queued_ids, ids_at}
use Rattle.gix_merge_base.specs.ReduceSteps.{Reducing, IsOrder, AreMetBefore}
use Rattle.gix_merge_base.proofs.AfterCalls.{AfterCalls}
use Rattle.gix_merge_base.proofs.Reduction.{left_to_meet}
use Rattle.gix_merge_base.specs.AfterCall.{LoadsFrom}
use Rattle.gix_merge_base.proofs.merge_base.reduction.meet.Given as goal

abbrev pub invariant-loop-key : goal.invariant-loop-key
invariant-loop-key g l = record {
  at : Reducing (g.S.Find.history l.fn.graph.source) (ids_at l.fn.graph l.numbers) (marks_at l.graph) (queued_ids l.graph l.walk.front.queue);
  left : CountsLeft (ids_at l.fn.graph l.numbers) l.graph l.walk.front;
  order : IsOrder (g.S.Find.history l.fn.graph.source) l.graph l.order.items;
  ids : (c : ObjectId) → is_one_of (ids_at l.fn.graph l.numbers) c ≡ is_one_of (queued_ids l.graph l.order.items) c;
  before : AreMetBefore (marks_at l.graph) (queued_ids l.graph l.order.items) l.place;
  queued : IsQueued (g.S.Find.history l.fn.graph.source) l.graph l.walk.front;
  loads : LoadsFrom (g.S.Find.history l.fn.graph.source) (ids_at l.fn.graph l.numbers) l.fn.graph l.graph;
  after : AfterCalls g.S.Find.history g.S.Find.fault_count l.fn.graph l.graph;
}

abbrev pub decreases-loop-key : goal.decreases-loop-key
decreases-loop-key g l = left_to_meet (g.S.Find.history l.graph.source) (marks_at l.graph) (queued_ids l.graph l.walk.front.queue)
