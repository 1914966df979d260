use Rattle.std.proofs.Common.{◌≡◌, take, length}
use Rattle.std.specs.List.{filter}
use Rattle.gix_merge_base.specs.PaintQueue.{marks_at, ids_at}
use Rattle.gix_resolve.specs.ReachSides.{is_first_alone, is_second_alone}
use Rattle.gix_resolve.proofs.reach.count.count_sides.Given as goal

abbrev pub invariant-loop-number : goal.invariant-loop-number
invariant-loop-number g l = record {
  first : l.firsts ≡ length (filter (λ c. is_first_alone (marks_at l.graph c)) (take l.number-index (ids_at l.graph l.met)));
  second : l.seconds ≡ length (filter (λ c. is_second_alone (marks_at l.graph c)) (take l.number-index (ids_at l.graph l.met)));
}
