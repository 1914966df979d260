use Rattle.std.proofs.Common.{◌⊎◌, take}
use Rattle.gix_base.specs.declared.hash.ObjectId.{ObjectId}
use Rattle.gix_merge_base.specs.Front.{IsRight}
use Rattle.gix_merge_base.specs.PaintSteps.{Begun}
use Rattle.gix_merge_base.specs.Painting.{IsHandedIn}
use Rattle.gix_merge_base.specs.PaintQueue.{marks_at, queued_ids, IsHeld}
use Rattle.gix_merge_base.proofs.AfterCalls.{AfterSteps}
use Rattle.gix_merge_base.proofs.merge_base.painting.start.Given as goal

abbrev pub invariant-loop-other : goal.invariant-loop-other
invariant-loop-other g l = record {
  begun : Begun (g.S.Find.history l.fn.graph.source) l.fn.first (take l.other-index l.others) (marks_at l.graph) (queued_ids l.graph l.front.queue);
  right : IsRight (g.S.Find.history l.fn.graph.source) l.graph l.front;
  holds : (q : ObjectId) → IsHeld l.graph q → IsHeld l.fn.graph q ⊎ IsHandedIn l.fn.first (take l.other-index l.others) q;
  after : AfterSteps g.S.Find.history g.S.Find.fault_count l.fn.graph l.graph;
}
