use Rattle.std.proofs.Common.{◌≡◌, ◌∷◌, [], ◌⊎◌}
use Rattle.gix_base.specs.declared.hash.ObjectId.{ObjectId}
use Rattle.gix_revwalk.specs.History.{IsAncestor}
use Rattle.gix_revwalk.specs.Number.{place_in}
use Rattle.gix_merge_base.specs.Front.{IsQueued}
use Rattle.gix_merge_base.specs.PaintQueue.{marks_at, queued_ids, id_at, ids_at, AreIn, IsHeld}
use Rattle.gix_merge_base.proofs.AfterCalls.{AfterCalls}
use Rattle.gix_merge_base.proofs.Ancestry.{Climbing}
use Rattle.gix_merge_base.proofs.Reduction.{left_to_meet}
use Rattle.gix_merge_base.proofs.merge_base.ancestry.meets.Given as goal

abbrev pub invariant-loop-alloc : goal.invariant-loop-alloc
invariant-loop-alloc g l = record {
  at : Climbing (g.S.Find.history l.fn.graph.source) (id_at l.fn.graph (place_in l.fn.from)) (marks_at l.graph) (queued_ids l.graph l.walk.front.queue);
  target : AreIn l.graph (l.target ∷ []) × (ids_at l.graph (l.target ∷ []) ≡ ids_at l.fn.graph (l.target ∷ []));
  queued : IsQueued (g.S.Find.history l.fn.graph.source) l.graph l.walk.front;
  taken : (q : ObjectId) → IsHeld l.graph q → IsHeld l.fn.graph q ⊎ IsAncestor (g.S.Find.history l.fn.graph.source) (id_at l.fn.graph (place_in l.fn.from)) q;
  after : AfterCalls g.S.Find.history g.S.Find.fault_count l.fn.graph l.graph;
}

abbrev pub decreases-loop-alloc : goal.decreases-loop-alloc
decreases-loop-alloc g l = left_to_meet (g.S.Find.history l.graph.source) (marks_at l.graph) (queued_ids l.graph l.walk.front.queue)
