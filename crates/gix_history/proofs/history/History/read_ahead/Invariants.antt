use Rattle.gix_history.specs.Grown.{Grows}
use Rattle.gix_history.proofs.history.History.read_ahead.Given as goal

abbrev pub invariant-loop : goal.invariant-loop
invariant-loop g l = Grows l.fn.self.known l.self.known
