-- What is checked of the commits of a file when it is opened: each look-up leads to a commit of the
-- file, and each parent to one of n commits. They are the commits of the file and, if the file is
-- one of a chain, those of the files below it.
use Rattle.std.specs.Prelude.{◌≢◌, ℕ, ◌+◌, ◌-◌, ◌*◌, ◌%◌, ◌^◌, ◌≤◌, ◌<◌, List, length}
use Rattle.gix_ids.specs.TableForm.{IsSorted}
use Rattle.gix_commitgraph.specs.FileCommits.{row_word, edge_word, edge_list}
use Rattle.gix_commitgraph.specs.declared.commit_graph.layout.Layout.{Layout}

-- The chunks CDAT and EDGE of the layout l are inside the bytes s.
pub record Fits (s : List ℕ) (l : Layout) : Type 0 where
  pub rows : l.rows + 36 * l.table.count ≤ length s
  pub edges : l.edges + 4 * l.edge_count ≤ length s

module _ (s : List ℕ) (l : Layout) where
  -- Each of the two numbers for parents of the commit at position i is 0x70000000 or less than n.
  -- But if the second one has its highest bit set, a list of parents begins within EDGE where it
  -- says.
  pub record HasParents (n i : ℕ) : Type 0 where
    pub first : row_word s l i 20 ≢ 0x7000_0000 → row_word s l i 20 < n
    pub second : row_word s l i 24 ≢ 0x7000_0000 → row_word s l i 24 < 2 ^ 31 → row_word s l i 24 < n
    pub others : 2 ^ 31 ≤ row_word s l i 24 → row_word s l i 24 - 2 ^ 31 < l.edge_count

  -- The number k of EDGE, without its highest bit, is less than n.
  abbrev pub NamesCommit : ℕ → ℕ → Type 0
  NamesCommit n k = edge_word s l k % 2 ^ 31 < n

  -- The commit at position i has a list in EDGE.
  abbrev pub HasList : ℕ → Type 0
  HasList i = 2 ^ 31 ≤ row_word s l i 24

  -- The place in EDGE at which the list of the commit at position i begins, if it has one.
  abbrev pub list_start : ℕ → ℕ
  list_start i = row_word s l i 24 - 2 ^ 31

  -- The place in EDGE after the last number of the list of the commit at position i, if it has one.
  abbrev pub list_end : ℕ → ℕ
  list_end i = list_start i + length (edge_list s l (list_start i) (l.edge_count - list_start i))

  -- If the commits at positions i and j both have a list in EDGE, the list of i ends before that of
  -- j begins.
  abbrev pub EndsBefore : ℕ → ℕ → Type 0
  EndsBefore i j = HasList i → HasList j → list_end i ≤ list_start j

  -- The commits are sound: the ids are sorted, CDAT and EDGE are inside the bytes, the positions of
  -- parents are less than n, and the lists in EDGE end, are in order and do not overlap.
  pub record IsSoundIn (n : ℕ) : Type 0 where
    pub sorted : IsSorted s l.table
    pub fits : Fits s l
    pub parents : (i : ℕ) → i < l.table.count → HasParents n i
    pub edges : (k : ℕ) → k < l.edge_count → NamesCommit n k
    -- The last number of EDGE ends a list.
    pub ended : 0 < l.edge_count → 2 ^ 31 ≤ edge_word s l (l.edge_count - 1)
    -- The lists in EDGE are in the order of their commits, and no two overlap.
    pub lists : (i j : ℕ) → i < j → j < l.table.count → EndsBefore i j

  -- The commits are sound, and their parents are commits of the file.
  abbrev pub IsSound : Type 0
  IsSound = IsSoundIn l.table.count
