use Rattle.std.proofs.Common.{take, []}
use Rattle.gix_merge_base.proofs.AfterCalls.{AfterCalls}
use Rattle.gix_merge_base.specs.Sides.{CoversSide}
use Rattle.gix_range.proofs.found.reached_by.Given as goal

abbrev pub invariant-loop-id : goal.invariant-loop-id
invariant-loop-id g l = record {
  covers : CoversSide (g.S.Find.history l.fn.graph.source) (take l.id-index l.ids) [] l.all;
  after : AfterCalls g.S.Find.history g.S.Find.fault_count l.fn.graph l.graph;
}
