use Rattle.std.proofs.Common.{ℕ, ◌<◌}
use Rattle.gix_pack.specs.IndexForm.{HasOffset}
use Rattle.gix_pack.proofs.index.check.check_offsets.Given as goal

abbrev pub invariant-loop-i : goal.invariant-loop-i
invariant-loop-i l = (i : ℕ) → i < l.i → HasOffset l.bytes i
