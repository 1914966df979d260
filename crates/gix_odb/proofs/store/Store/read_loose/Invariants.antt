use Rattle.gix_odb.specs.Refusals.{IsFailure}
use Rattle.gix_odb.proofs.store.Store.read_loose.Given as goal

abbrev pub invariant-loop-number : goal.invariant-loop-number
invariant-loop-number g l = IsFailure l.fn.id l.failure
