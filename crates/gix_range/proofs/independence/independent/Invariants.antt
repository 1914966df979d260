use Rattle.std.proofs.Common.{take}
use Rattle.gix_merge_base.proofs.AfterCalls.{AfterCalls}
use Rattle.gix_range.specs.Independent.{Frees}
use Rattle.gix_range.proofs.independence.independent.Given as goal

abbrev pub invariant-loop-id : goal.invariant-loop-id
invariant-loop-id g l = record {
  frees : Frees (g.S.Find.history l.fn.graph.source) l.ids (take l.id-index l.ids) l.kept.items;
  after : AfterCalls g.S.Find.history g.S.Find.fault_count l.fn.graph l.graph;
}
