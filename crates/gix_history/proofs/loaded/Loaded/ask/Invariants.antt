use Rattle.gix_history.specs.Levels.{Keeps}
use Rattle.gix_history.proofs.loaded.Loaded.ask.Given as goal

abbrev pub invariant-loop : goal.invariant-loop
invariant-loop g l = Keeps l.fn.self l.self
