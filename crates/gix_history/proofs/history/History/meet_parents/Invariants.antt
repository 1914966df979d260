use Rattle.gix_history.specs.Grown.{Grows}
use Rattle.gix_history.proofs.history.History.meet_parents.Given as goal

abbrev pub invariant-loop-place : goal.invariant-loop-place
invariant-loop-place g l = Grows l.fn.self.known l.self.known
