use Rattle.std.proofs.Common.{◌≡◌, ℕ, ◌+◌, ◌<◌, [], length, slice_index}
use Rattle.gix_order.specs.Orders.{listed}
use Rattle.gix_order.specs.Counts.{times_in, sum_over}
use Rattle.gix_order.proofs.counts.meetings.Given as goal

abbrev pub invariant-loop-place : goal.invariant-loop-place
invariant-loop-place l = record {
  len : length l.left.items ≡ (listed l.commits).count;
  links : (p : ℕ) → p < (listed l.commits).count → slice_index l.left.items p ≡ 1 + sum_over l.place [] (λ c. times_in ((listed l.commits).parents c) p);
}
