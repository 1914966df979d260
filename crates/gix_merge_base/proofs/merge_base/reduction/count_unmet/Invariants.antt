use Rattle.std.proofs.Common.{◌≡◌, ◌≤◌, take}
use Rattle.gix_merge_base.specs.Counting.{unstale}
use Rattle.gix_merge_base.specs.PaintQueue.{marks_at, ids_at}
use Rattle.gix_merge_base.proofs.merge_base.reduction.count_unmet.Given as goal

abbrev pub invariant-loop-number : goal.invariant-loop-number
invariant-loop-number g l = record {
  counted : l.unmet ≡ unstale (marks_at l.graph) (ids_at l.graph (take l.number-index l.numbers));
  few : l.unmet ≤ l.number-index;
}
