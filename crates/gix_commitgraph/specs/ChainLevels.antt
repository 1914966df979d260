-- Levels that fall in a chain of files (git's technical/commit-graph, "generation number").
use Rattle.std.specs.Prelude.{◌≡◌, ℕ, ◌-◌, ◌^◌, List, ◌∷◌, [], Bool, true, false, ◌&&◌, is_some, nat_lt, Option, Some, None}
use Rattle.std.specs.Option.{unwrap_or}
use Rattle.std.specs.List.{list_all}
use Rattle.gix_base.specs.declared.hash.ObjectId.{ObjectId}
use Rattle.gix_revwalk.specs.History.{History, Entry, entry_at, generation_of}
use Rattle.gix_commitgraph.specs.FileCommits.{history_in}
use Rattle.gix_commitgraph.specs.FileLevels.{LevelsFall}
use Rattle.gix_commitgraph.specs.ChainCommits.{chain_in, ids_of, layers_in}

-- The id b is that of a commit of the history h whose generation number is less than n.
abbrev pub is_low : History → ℕ → ObjectId → Bool
is_low h n b = is_some (entry_at h b) && nat_lt (generation_of h b) n

-- The commit e has a generation number less than infinity, and all its parents are commits of the
-- history h with smaller ones.
abbrev pub is_over : History → Entry → Bool
is_over h e =
    nat_lt (unwrap_or e.generation (2 ^ 32 - 1)) (2 ^ 32 - 1) && list_all (is_low h (unwrap_or e.generation (2 ^ 32 - 1))) e.parents

-- There is a commit, as is_over says.
abbrev pub over_in : History → Option Entry → Bool
over_in h None = false
over_in h (Some e) = is_over h e

-- The id a is that of a commit of the history h as is_over says.
abbrev pub is_high : History → ObjectId → Bool
is_high h a = over_in h (entry_at h a)

-- The lowest of the files, which is the first, has LevelsFall. Each commit of the other files has a
-- generation number, and all its parents are commits of the chain with smaller ones.
abbrev pub ChainFalls : List (List ℕ) → Type 0
ChainFalls [] = ⊥
ChainFalls (s ∷ files) =
    LevelsFall s × (list_all (is_high (chain_in (s ∷ files))) (ids_of (layers_in (history_in s) files)) ≡ true)
