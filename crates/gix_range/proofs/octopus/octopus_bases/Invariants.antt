use Rattle.std.proofs.Common.{take, ◌∷◌}
use Rattle.gix_merge_base.specs.Premises.{IsAcyclicFrom}
use Rattle.gix_merge_base.proofs.AfterCalls.{AfterCalls}
use Rattle.gix_range.specs.Octopus.{Meets}
use Rattle.gix_range.proofs.octopus.octopus_bases.Given as goal

abbrev pub invariant-loop-other : goal.invariant-loop-other
invariant-loop-other g l = record {
  meets : IsAcyclicFrom (g.S.Find.history l.fn.graph.source) (l.fn.first ∷ l.fn.others) → Meets (g.S.Find.history l.fn.graph.source) (l.fn.first ∷ l.fn.others) (l.fn.first ∷ take l.other-index l.fn.others) l.common.items;
  after : AfterCalls g.S.Find.history g.S.Find.fault_count l.fn.graph l.graph;
}
