use Rattle.std.specs.List.{All}
use Rattle.gix_history.specs.Levels.{Keeps}
use Rattle.gix_history.specs.Waiting.{IsPending}
use Rattle.gix_history.proofs.loaded.Loaded.walk.Given as goal

abbrev pub invariant-loop : goal.invariant-loop
invariant-loop g l = All (IsPending l.self) l.path.items × Keeps l.fn.self l.self
