use Rattle.std.proofs.Common.{◌∷◌, take, IsTrue}
use Rattle.gix_base.specs.declared.hash.ObjectId.{ObjectId}
use Rattle.gix_revwalk.specs.History.{Has, is_one_of}
use Rattle.gix_merge_base.specs.Keys.{IsInOrder}
use Rattle.gix_merge_base.specs.Premises.{IsAcyclicFrom}
use Rattle.gix_merge_base.proofs.AfterCalls.{AfterCalls}
use Rattle.gix_merge_base.proofs.Heads.{StandFor}
use Rattle.gix_merge_base.specs.AfterCall.{LoadsFrom}
use Rattle.gix_merge_base.specs.Painting.{AreFrom}
use Rattle.gix_merge_base.proofs.merge_base.heads.steps.Given as goal

abbrev pub invariant-loop-other : goal.invariant-loop-other
invariant-loop-other g l = record {
  stand : IsAcyclicFrom (g.S.Find.history l.fn.graph.source) (l.fn.first ∷ l.others) → ((c : ObjectId) → IsTrue (is_one_of (l.fn.first ∷ l.others) c) → Has (g.S.Find.history l.fn.graph.source) c)
      → StandFor (g.S.Find.history l.fn.graph.source) l.fn.first (take l.other-index l.others) l.left.items;
  order : IsInOrder (g.S.Find.history l.fn.graph.source) l.left.items;
  within : AreFrom (g.S.Find.history l.fn.graph.source) (l.fn.first ∷ l.others) l.left.items;
  loads : LoadsFrom (g.S.Find.history l.fn.graph.source) (l.fn.first ∷ l.others) l.fn.graph l.graph;
  after : AfterCalls g.S.Find.history g.S.Find.fault_count l.fn.graph l.graph;
}
