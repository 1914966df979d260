use Rattle.std.proofs.Common.{◌≡◌, ◌≤◌, map, take, length, vec_len}
use Rattle.std.specs.Vec.{vec_capacity}
use Rattle.gix_merge_base.specs.PaintQueue.{ids_at}
use Rattle.gix_resolve.specs.Newest.{turned_for}
use Rattle.gix_resolve.proofs.list.newest.turned_of.Given as goal

abbrev pub invariant-loop-number : goal.invariant-loop-number
invariant-loop-number g l = record {
  turned : l.all.items ≡ map (turned_for (g.S.Find.history l.graph.source)) (take l.number-index (ids_at l.graph l.numbers));
  len : vec_len l.all ≡ l.number-index;
  room : length l.numbers ≤ vec_capacity l.all;
}
