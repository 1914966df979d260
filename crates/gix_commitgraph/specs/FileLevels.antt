-- Levels that fall from each commit to its parents (git's technical/commit-graph, "generation
-- number": the topological level of a commit is one more than the greatest of its parents', and 1
-- if it has none).
use Rattle.std.specs.Prelude.{◌≡◌, ℕ, ◌-◌, ◌^◌, ◌<◌, List, Bool, true, ◌&&◌, nat_lt, IsTrue}
use Rattle.std.specs.List.{list_all}
use Rattle.gix_base.specs.declared.hash.ObjectId.{ObjectId}
use Rattle.gix_revwalk.specs.History.{History, Has, IsEdge, entry_at, generation_of, is_one_of, parents_in}
use Rattle.gix_commitgraph.specs.FileChunks.{layout_of}
use Rattle.gix_commitgraph.specs.FileCommits.{level_at, parents_at}
use Rattle.gix_commitgraph.specs.declared.commit_graph.layout.Layout.{Layout}

module _ (s : List ℕ) (l : Layout) where
  -- Position p is that of a commit whose level is less than n.
  abbrev pub is_lower : ℕ → ℕ → Bool
  is_lower n p = nat_lt p l.table.count && nat_lt (level_at s l p) n

  -- The commit at position i has a level, and all its parents are commits of lesser levels.
  abbrev pub is_above : ℕ → Bool
  is_above i = nat_lt 0 (level_at s l i) && list_all (is_lower (level_at s l i)) (parents_at s l i)

-- Each commit of the file s has a level, and all its parents are commits of s with lesser ones.
abbrev pub LevelsFall : List ℕ → Type 0
LevelsFall s = (i : ℕ) → i < (layout_of s).table.count → is_above s (layout_of s) i ≡ true

-- On every edge of the history h, the parent's generation number is less than the child's.
abbrev pub GenerationsFall : History → Type 0
GenerationsFall h = (a b : ObjectId) → IsEdge h a b → generation_of h b < generation_of h a

-- Each commit of the history h has a generation number less than infinity, the greatest u32. Each
-- of its parents is a commit of the history, and has a smaller one.
pub record IsLevelled (h : History) : Type 0 where
  pub known : (a : ObjectId) → Has h a → generation_of h a < 2 ^ 32 - 1
  pub closed : (a b : ObjectId) → IsTrue (is_one_of (parents_in (entry_at h a)) b) → Has h b
  pub fall : GenerationsFall h
