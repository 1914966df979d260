use Rattle.std.proofs.Common.{◌≡◌, take}
use Rattle.gix_revwalk.specs.Graph.{held_ids}
use Rattle.gix_revwalk.specs.Walks.{all_added}
use Rattle.gix_merge_base.specs.PaintQueue.{ids_at}
use Rattle.gix_resolve.specs.ListWalk.{AreMarked}
use Rattle.gix_resolve.proofs.list.walk.list_all.Given as goal

abbrev pub invariant-loop-number : goal.invariant-loop-number
invariant-loop-number g l = record {
  marked : AreMarked l.graph l.listed.items;
  added : ids_at l.graph l.listed.items ≡ all_added (ids_at l.fn.graph l.fn.listed.items) (take l.number-index (ids_at l.fn.graph l.numbers));
  ids : held_ids l.graph ≡ held_ids l.fn.graph;
  source : l.graph.source ≡ l.fn.graph.source;
}
