-- What is loaded of a history, with levels.
use Rattle.std.specs.Prelude.{◌≡◌, ℕ, ◌-◌, ◌^◌, ◌<◌, List, Some}
use Rattle.std.specs.Map.{lookup}
use Rattle.gix_base.specs.declared.hash.ObjectId.{ObjectId}
use Rattle.gix_revwalk.specs.History.{History, Entry, Has, entry_at, generation_of, same_id}
use Rattle.gix_commitgraph.specs.FileLevels.{IsLevelled}
use Rattle.gix_history.specs.Origins.{IsCommitOf}

-- The history h has the commit id with this level, which is less than infinity (git's
-- technical/commit-graph, "topological level").
pub record IsLevelOf (h : History) (id : ObjectId) (level : ℕ) : Type 0 where
  pub has : Has h id
  pub is : generation_of h id ≡ level
  pub known : level < 2 ^ 32 - 1

-- Each commit of the history h is what a content says whose hash is its id.
abbrev pub AreCommits : History → Type 0
AreCommits h = (id : ObjectId) (commit : Entry) → entry_at h id ≡ Some commit → IsCommitOf id commit

-- Each commit of the history h is authentic, each of its parents is a commit of h with a lesser
-- level, and each level that was noted is that of its commit.
pub record AreLoaded (h : History) (levels : List (ObjectId × ℕ)) : Type 0 where
  pub levelled : IsLevelled h
  pub authentic : AreCommits h
  pub noted : (id : ObjectId) (level : ℕ) → lookup (same_id id) levels ≡ Some level → IsLevelOf h id level

-- The history `more` has each commit of the history h, unchanged.
abbrev pub Keeps : History → History → Type 0
Keeps h more = (id : ObjectId) → Has h id → entry_at more id ≡ entry_at h id
