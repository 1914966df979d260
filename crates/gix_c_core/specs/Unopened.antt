-- Why bytes are not opened.
use Rattle.std.specs.Prelude.{ℕ, List, ⊤}
use Rattle.gix_commitgraph.specs.FileFormat.{IsCommitGraph}
use Rattle.gix_commitgraph.specs.FileLevels.{LevelsFall}
use Rattle.gix_c_core.specs.declared.file.Unopened.{Unopened}
use Rattle.gix_c_core.specs.declared.file.Unopened.TheVariants.{NoGraph, NoLevels, OutOfMemory}

-- Why bytes are not opened. NoGraph: they are not a supported commit-graph file. NoLevels: they are
-- one in which a commit has no level or a parent's level is not less than its child's. OutOfMemory:
-- no condition.
abbrev pub TellsCause : List ℕ → Unopened → Type 0
TellsCause bytes NoGraph = ¬ IsCommitGraph bytes
TellsCause bytes NoLevels = IsCommitGraph bytes × (¬ LevelsFall bytes)
TellsCause bytes OutOfMemory = ⊤
