use Rattle.std.proofs.Common.{◌≡◌, ◌≤◌, map, take, length, vec_len}
use Rattle.std.specs.Vec.{vec_capacity}
use Rattle.gix_merge_base.specs.Candidates.{id_in}
use Rattle.gix_resolve.proofs.list.newest.ids_of.Given as goal

abbrev pub invariant-loop-id : goal.invariant-loop-id
invariant-loop-id g l = record {
  ids : l.ids.items ≡ map id_in (take l.id-index l.all);
  len : vec_len l.ids ≡ l.id-index;
  room : length l.all ≤ vec_capacity l.ids;
}
