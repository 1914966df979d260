use Rattle.std.proofs.Common.{◌≡◌}
use Rattle.gix_history.specs.Waiting.{IsPending, IsSame}
use Rattle.gix_history.proofs.loaded.Loaded.settle.Given as goal

abbrev pub invariant-loop-i : goal.invariant-loop-i
invariant-loop-i g l = IsSame l.fn.pending l.pending × (l.pending.settled ≡ l.i) × IsPending l.self l.pending
