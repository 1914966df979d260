use Rattle.std.proofs.Common.{take}
use Rattle.std.specs.List.{All}
use Rattle.gix_revwalk.specs.History.{Has}
use Rattle.gix_history.specs.Levels.{Keeps}
use Rattle.gix_history.proofs.loaded.Loaded.load.Given as goal

abbrev pub invariant-loop-tip : goal.invariant-loop-tip
invariant-loop-tip g l = Keeps l.fn.self l.self × All (Has l.self) (take l.tip-index l.tips)
