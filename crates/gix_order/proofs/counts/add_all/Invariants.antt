use Rattle.std.proofs.Common.{◌≡◌, ℕ, ◌+◌, ◌<◌, length, take, slice_index}
use Rattle.gix_order.specs.Counts.{times_in}
use Rattle.gix_order.proofs.counts.add_all.Given as goal

abbrev pub invariant-loop-parent : goal.invariant-loop-parent
invariant-loop-parent l = record {
  len : length l.left.items ≡ length l.fn.left.items;
  sums : (p : ℕ) → p < length l.fn.left.items → slice_index l.left.items p ≡ slice_index l.fn.left.items p + times_in (take l.parent-index l.parents) p;
}
