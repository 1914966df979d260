use Rattle.std.proofs.Common.{ℕ, ◌+◌, ◌<◌}
use Rattle.gix_ids.specs.TableForm.{Rises}
use Rattle.gix_ids.proofs.table.check_order.Given as goal

abbrev pub invariant-loop-i : goal.invariant-loop-i
invariant-loop-i l = (i : ℕ) → i + 1 < l.i → Rises l.bytes l.t i
