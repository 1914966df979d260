-- What a walk over the lists in EDGE knows (gitformat-commit-graph, "Extra Edge List").
use Rattle.std.specs.Prelude.{◌≡◌, ◌⊎◌, ℕ, ◌<◌, ◌≤◌, List}
use Rattle.gix_commitgraph.specs.FileChecks.{HasList, list_end}
use Rattle.gix_commitgraph.specs.declared.commit_graph.layout.Layout.{Layout}

-- Place k of EDGE is the first after the lists of all commits before position n. If none of them has
-- a list, then k is 0.
pub record IsFree (s : List ℕ) (l : Layout) (n k : ℕ) : Type 0 where
  pub past : (i : ℕ) → i < n → HasList s l i → list_end s l i ≤ k
  pub first : (k ≡ 0) ⊎ ((i : ℕ) × (i < n) × HasList s l i × (list_end s l i ≡ k))
