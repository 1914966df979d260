use Rattle.gix_history.specs.Grown.{Grows}
use Rattle.gix_history.proofs.history.History.meet_named.Given as goal

abbrev pub invariant-loop-number : goal.invariant-loop-number
invariant-loop-number g l = Grows l.fn.self.known l.self.known
