use Rattle.std.proofs.Common.{◌≡◌, take}
use Rattle.std.specs.List.{filter_map}
use Rattle.gix_merge_base.specs.Candidates.{turned_at}
use Rattle.gix_merge_base.proofs.AfterCalls.{AfterCalls}
use Rattle.gix_merge_base.specs.AfterCall.{LoadsFrom}
use Rattle.gix_merge_base.proofs.merge_base.order.candidates_of.Given as goal

abbrev pub invariant-loop-id : goal.invariant-loop-id
invariant-loop-id g l = record {
  candidates : l.candidates.items ≡ filter_map (turned_at (g.S.Find.history l.fn.graph.source)) (take l.id-index l.ids);
  loads : LoadsFrom (g.S.Find.history l.fn.graph.source) l.ids l.fn.graph l.graph;
  after : AfterCalls g.S.Find.history g.S.Find.fault_count l.fn.graph l.graph;
}
