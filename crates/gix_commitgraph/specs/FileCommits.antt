-- The commits of a commit-graph file (gitformat-commit-graph, "Commit Data" and "Extra Edge List").
use Rattle.std.specs.Prelude.{ℕ, ℤ, zero, suc, ◌+◌, ◌-◌, ◌*◌, ◌/◌, ◌%◌, ◌^◌, pos, List, [], ◌∷◌, map, cond, nat_eq, nat_lt, Some}
use Rattle.gix_revwalk.specs.History.{History, Entry}
use Rattle.gix_ids.specs.TableBytes.{word}
use Rattle.gix_ids.specs.TableForm.{id_of}
use Rattle.gix_ids.specs.TableIds.{rows_in}
use Rattle.gix_commitgraph.specs.FileChunks.{layout_of}
use Rattle.gix_commitgraph.specs.declared.commit_graph.layout.Layout.{Layout}

-- The topological level: the upper 30 of the last 64 bits of a row, whose upper 32 are high. The
-- level 0 means that git did not compute it, and is less than each level that git computed (git's
-- technical/commit-graph, "generation number": GENERATION_NUMBER_ZERO).
abbrev pub level_of : ℕ → ℕ
level_of high = high / 4

-- The date, in seconds since the Unix epoch: the lower 34 of the last 64 bits of a row, whose upper
-- 32 are high and whose lower 32 are low.
abbrev pub date_of : ℕ → ℕ → ℤ
date_of high low = pos (high % 4 * 2 ^ 32 + low)

module _ (s : List ℕ) (l : Layout) where
  -- The number at offset at of row i in CDAT. The first 20 bytes of a row are the id of the
  -- commit's tree.
  abbrev pub row_word : ℕ → ℕ → ℕ
  row_word i at = word s (l.rows + 36 * i + at)

  -- The number k of EDGE.
  abbrev pub edge_word : ℕ → ℕ
  edge_word k = word s (l.edges + 4 * k)

  -- The list in EDGE that begins at its number k and has at most n entries. A number with its
  -- highest bit set is the last of a list.
  abbrev pub edge_list : ℕ → ℕ → List ℕ
  edge_list k zero = []
  edge_list k (suc n) = cond (nat_lt (edge_word k) (2 ^ 31)) (edge_word k ∷ edge_list (k + 1) n) ((edge_word k - 2 ^ 31) ∷ [])

  -- The positions of the second and further parents, if p is the second number of a row. 0x70000000
  -- means none. If the highest bit of p is set, the rest is the place of their list in EDGE.
  abbrev pub others : ℕ → List ℕ
  others p = cond (nat_eq p 0x7000_0000) [] (cond (nat_lt p (2 ^ 31)) (p ∷ []) (edge_list (p - 2 ^ 31) (l.edge_count - (p - 2 ^ 31))))

  -- The positions of all parents of the commit at position i. 0x70000000 as the first number of its
  -- row means no parents.
  abbrev pub parents_at : ℕ → List ℕ
  parents_at i = cond (nat_eq (row_word i 20) 0x7000_0000) [] (row_word i 20 ∷ others (row_word i 24))

  -- The topological level of the commit at position i: the upper 30 of the last 64 bits of its row.
  abbrev pub level_at : ℕ → ℕ
  level_at i = level_of (row_word i 28)

  -- The commit at position i, with the ids of its parents. Its time is the lower 34 of the last 64
  -- bits of its row, and its generation number is its topological level.
  abbrev pub entry_of_row : ℕ → Entry
  entry_of_row i = record {
    parents = map (id_of s l.table) (parents_at i);
    time = date_of (row_word i 28) (row_word i 32);
    generation = Some (level_at i);
  }

-- The history of the file s: its commits in the order of their positions.
unfoldable pub history_in : List ℕ → History
history_in s = rows_in s (layout_of s).table (entry_of_row s (layout_of s))
