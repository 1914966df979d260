-- A history over a chain of commit-graph files (git's technical/commit-graph, "Commit Graph
-- Chains").
use Rattle.std.specs.Prelude.{◌≡◌, ℕ, ⊤, List, [], ◌∷◌, Option, Some, None, is_some, map}
use Rattle.gix_base.specs.declared.hash.ObjectId.{ObjectId}
use Rattle.gix_commitgraph.specs.ChainCommits.{chain_in}
use Rattle.gix_commitgraph.specs.ChainFormat.{IsChain}
use Rattle.gix_commitgraph.specs.ChainLevels.{ChainFalls}
use Rattle.gix_commitgraph.specs.FileFormat.{IsCommitGraph}
use Rattle.gix_commitgraph.specs.FileLevels.{IsLevelled}
use Rattle.gix_revwalk.specs.Graph.{held_at}
use Rattle.gix_revwalk.specs.History.{History as Commits, entry_at, is_one_of}
use Rattle.gix_c_core.specs.Behind.{commits_in}
use Rattle.gix_c_core.specs.Noted.{Remembers}
use Rattle.gix_c_core.specs.declared.extent.Extent.TheVariants.{Complete}
use Rattle.gix_c_core.specs.declared.handle.Handle.{Handle}
use Rattle.gix_c_core.specs.declared.history.History.{History}
use Rattle.gix_c_core.specs.declared.chain.Bytes.{Bytes}
use Rattle.gix_c_core.specs.declared.file.Unopened.{Unopened}
use Rattle.gix_c_core.specs.declared.file.Unopened.TheVariants.{NoGraph, NoLevels, OutOfMemory}

-- The bytes of each file, as C passes them.
abbrev pub bytes_of : List Bytes → List (List ℕ)
bytes_of files = map (λ (b : Bytes). b.bytes.now) files

-- The history v is complete and has exactly the commits of h. Its graph holds none of them yet, it
-- notes parents (Remembers), it has no ref names, and abbreviated object names stand for exactly
-- the ids of those commits.
pub record IsMadeOver (h : Commits) (v : History) : Type 0 where
  pub commits : (id : ObjectId) → entry_at (commits_in v) id ≡ entry_at h id
  pub held : (id : ObjectId) → held_at v.graph id ≡ None
  pub noted : Remembers (commits_in v) v.named.items
  pub names : v.table.names.entries ≡ []
  pub ids : (id : ObjectId) → is_one_of v.table.ids.keys id ≡ is_some (entry_at h id)
  pub extent : v.extent ≡ Complete

-- There is a handle, and its history is that of a chain of commit-graph files in which each parent
-- has a lower level than its child.
pub record IsChainOpened (files : List (List ℕ)) (o : Option Handle) : Type 0 where
  pub chain : IsChain files
  pub fall : ChainFalls files
  pub levelled : IsLevelled (chain_in files)
  pub handle : Handle
  pub there : o ≡ Some handle
  pub made : IsMadeOver (chain_in files) handle.value

-- There is a lowest file, and it is a commit-graph file.
abbrev pub HasLowest : List (List ℕ) → Type 0
HasLowest [] = ⊥
HasLowest (s ∷ files) = IsCommitGraph s

-- Why files are not opened. NoGraph: they are not a chain. NoLevels: the lowest one is a
-- commit-graph file, and the levels of the files do not fall (ChainFalls). OutOfMemory: no
-- condition.
abbrev pub TellsChainCause : List (List ℕ) → Unopened → Type 0
TellsChainCause files NoGraph = ¬ IsChain files
TellsChainCause files NoLevels = HasLowest files × (¬ ChainFalls files)
TellsChainCause files OutOfMemory = ⊤
