use Rattle.std.proofs.Common.{◌≡◌, ◌≤◌, take, length, vec_len}
use Rattle.std.specs.List.{filter_map}
use Rattle.std.specs.Vec.{vec_capacity}
use Rattle.gix_revwalk.specs.Walks.{HoldsMore}
use Rattle.gix_merge_base.specs.Candidates.{turned_at}
use Rattle.gix_resolve.proofs.ListAfter.{AfterWalks}
use Rattle.gix_resolve.proofs.list.newest.turned_all.Given as goal

abbrev pub invariant-loop-id : goal.invariant-loop-id
invariant-loop-id g l = record {
  turned : l.all.items ≡ filter_map (turned_at (g.S.Find.history l.fn.graph.source)) (take l.id-index l.ids);
  taken : HoldsMore (g.S.Find.history l.fn.graph.source) l.ids l.fn.graph l.graph;
  len : vec_len l.all ≤ l.id-index;
  room : length l.ids ≤ vec_capacity l.all;
  after : AfterWalks g.S.Find.history g.S.Find.fault_count l.fn.graph l.graph;
}
