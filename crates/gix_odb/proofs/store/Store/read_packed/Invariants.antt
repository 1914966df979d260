use Rattle.gix_odb.specs.Refusals.{IsFailure}
use Rattle.gix_odb.proofs.store.Store.read_packed.Given as goal

abbrev pub invariant-loop-place : goal.invariant-loop-place
invariant-loop-place g l = IsFailure l.fn.id l.failure
