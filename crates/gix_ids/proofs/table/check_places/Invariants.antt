use Rattle.std.proofs.Common.{ℕ, ◌<◌}
use Rattle.gix_ids.specs.TableForm.{IsFanned}
use Rattle.gix_ids.proofs.table.check_places.Given as goal

abbrev pub invariant-loop-i : goal.invariant-loop-i
invariant-loop-i l = (i : ℕ) → i < l.i → IsFanned l.bytes l.t i
