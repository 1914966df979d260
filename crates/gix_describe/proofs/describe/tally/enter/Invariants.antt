use Rattle.std.proofs.Common.{◌≡◌, ◌≤◌, ◌<◌, ◌+◌, ℕ, length, slice_index}
use Rattle.gix_describe.specs.Lacking.{lacks}
use Rattle.gix_describe.proofs.describe.tally.enter.Given as goal

abbrev pub invariant-loop-i : goal.invariant-loop-i
invariant-loop-i g l = record {
  len : length l.lacking.items ≡ length l.fn.lacking.items;
  done : (k : ℕ) → k < l.i → slice_index l.lacking.items k ≡ slice_index l.fn.lacking.items k + lacks k l.marks;
  rest : (k : ℕ) → l.i ≤ k → slice_index l.lacking.items k ≡ slice_index l.fn.lacking.items k;
}
