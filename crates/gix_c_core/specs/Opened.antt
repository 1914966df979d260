-- A history over a commit-graph file.
use Rattle.std.specs.Prelude.{◌≡◌, ℕ, List, [], Option, Some, None, is_some}
use Rattle.gix_base.specs.declared.hash.ObjectId.{ObjectId}
use Rattle.gix_commitgraph.specs.FileCommits.{history_in}
use Rattle.gix_commitgraph.specs.FileFormat.{IsCommitGraph}
use Rattle.gix_commitgraph.specs.FileLevels.{IsLevelled, LevelsFall}
use Rattle.gix_revwalk.specs.Graph.{held_at}
use Rattle.gix_revwalk.specs.History.{entry_at, is_one_of}
use Rattle.gix_c_core.specs.Behind.{commits_in}
use Rattle.gix_c_core.specs.Noted.{Remembers}
use Rattle.gix_c_core.specs.declared.extent.Extent.TheVariants.{Complete}
use Rattle.gix_c_core.specs.declared.handle.Handle.{Handle}
use Rattle.gix_c_core.specs.declared.history.History.{History}

-- The history v is complete and has exactly the commits of the file. Its graph holds none of them
-- yet, it notes parents (Remembers), it has no ref names, and abbreviated object names stand for
-- exactly the ids of those commits. Each commit has a level, and its parents are commits of the
-- file with lesser ones.
pub record IsMadeOf (file : List ℕ) (v : History) : Type 0 where
  pub commits : commits_in v ≡ history_in file
  pub held : (id : ObjectId) → held_at v.graph id ≡ None
  pub noted : Remembers (commits_in v) v.named.items
  pub names : v.table.names.entries ≡ []
  pub ids : (id : ObjectId) → is_one_of v.table.ids.keys id ≡ is_some (entry_at (history_in file) id)
  pub levelled : IsLevelled (history_in file)
  pub extent : v.extent ≡ Complete

-- There is a handle, and its history is that of a commit-graph file in which each commit has a
-- level and each of its parents a lesser one.
pub record IsOpened (bytes : List ℕ) (o : Option Handle) : Type 0 where
  pub file : IsCommitGraph bytes
  pub fall : LevelsFall bytes
  pub handle : Handle
  pub there : o ≡ Some handle
  pub made : IsMadeOf bytes handle.value
