use Rattle.std.proofs.Common.{◌≡◌, take}
use Rattle.std.specs.List.{All}
use Rattle.gix_merge_base.specs.PaintQueue.{queued_ids, ids_at}
use Rattle.gix_merge_base.specs.ReduceSteps.{IsRanked}
use Rattle.gix_merge_base.proofs.merge_base.reduction.by_generation.Given as goal

abbrev pub invariant-loop-number : goal.invariant-loop-number
invariant-loop-number g l = record {
  ranked : All (IsRanked (g.S.Find.history l.graph.source) l.graph) l.order.items;
  made : queued_ids l.graph l.order.items ≡ ids_at l.graph (take l.number-index l.numbers);
}
