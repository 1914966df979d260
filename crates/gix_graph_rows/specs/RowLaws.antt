-- A row that is read alone says of its commit the date, the generation number and the number of
-- parents that the file says.
use Rattle.std.specs.Prelude.{ℕ, ◌+◌, ◌*◌, ◌<◌, List, take, drop}
use Rattle.gix_commitgraph.specs.FileChecks.{IsSound}
use Rattle.gix_commitgraph.specs.FileCommits.{entry_of_row}
use Rattle.gix_commitgraph.specs.declared.commit_graph.layout.Layout.{Layout}
use Rattle.gix_graph_rows.specs.RowForm.{SaysOf}

-- The 36 bytes of the row at position i of the file s, whose layout is l.
abbrev pub row_of : List ℕ → Layout → ℕ → List ℕ
row_of s l i = take 36 (drop (l.rows + 36 * i) s)

-- The row at a position of a sound file says the date, the generation number and the number of
-- parents of the commit that the file has there.
abbrev pub RowsSayTheSame : Type 0
RowsSayTheSame = (s : List ℕ) (l : Layout) (i : ℕ) → IsSound s l → i < l.table.count → SaysOf (row_of s l i) (entry_of_row s l i)
