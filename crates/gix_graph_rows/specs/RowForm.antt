-- One row of a commit-graph file (gitformat-commit-graph, "Commit Data").
use Rattle.std.specs.Prelude.{◌≡◌, ℕ, ℤ, ◌^◌, ◌≤◌, List, length, cond, nat_eq, nat_lt, Some}
use Rattle.gix_revwalk.specs.History.{Entry}
use Rattle.gix_ids.specs.TableBytes.{word}
use Rattle.gix_commitgraph.specs.FileCommits.{date_of, level_of}

module _ (row : List ℕ) where
  -- The topological level: the upper 30 of the last 64 bits of the row. It is the generation number.
  abbrev pub level_in : ℕ
  level_in = level_of (word row 28)

  -- The date: the lower 34 of the last 64 bits of the row.
  abbrev pub date_in : ℤ
  date_in = date_of (word row 28) (word row 32)

  -- The row says that its commit has n parents. 0x70000000 stands for no parent. If the highest bit
  -- of the second number is set, there is a list of further parents elsewhere, and n is at least 2.
  abbrev pub HasCount : ℕ → Type 0
  HasCount n =
      cond (nat_eq (word row 20) 0x7000_0000) (n ≡ 0)
      (cond (nat_eq (word row 24) 0x7000_0000) (n ≡ 1)
      (cond (nat_lt (word row 24) (2 ^ 31)) (n ≡ 2) (2 ≤ n)))

  -- The row says the date, the generation number and the number of parents of the commit e.
  pub record SaysOf (e : Entry) : Type 0 where
    pub date : e.time ≡ date_in
    pub generation : e.generation ≡ Some level_in
    pub parents : HasCount (length e.parents)

-- The commit e is what the 36 bytes of a row say.
pub record IsSaid (e : Entry) : Type 0 where
  pub row : List ℕ
  pub whole : length row ≡ 36
  pub says : SaysOf row e
