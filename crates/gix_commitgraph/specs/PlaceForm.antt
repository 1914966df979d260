-- Positions in a chain (technical/commit-graph, "Commit-Graph Chains": the commits of the base come
-- first, and then those of each further file).
use Rattle.std.specs.Prelude.{◌≡◌, ℕ, ◌+◌, ◌<◌, List, take, slice_get, sum_by, Some}

-- Each of files has as many commits as count says. The commit at this position of the chain is row r
-- of the file with the number l.
pub record IsPlace {X : Type 0} (count : X → ℕ) (files : List X) (position l r : ℕ) : Type 0 where
  pub file : X
  pub there : slice_get files l ≡ Some file
  pub row : r < count file
  pub same : sum_by count (take l files) + r ≡ position
