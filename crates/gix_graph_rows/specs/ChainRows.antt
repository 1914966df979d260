-- What the files of a chain say of a commit, read row by row (gitformat-commit-graph, "Commit Data",
-- and technical/commit-graph, "Commit-Graph Chains").
use Rattle.std.specs.Prelude.{◌≡◌, ℕ, ◌-◌, ◌/◌, ◌<◌, List, [], ◌∷◌, length, map, cond, nat_eq, nat_lt, slice_index_or, All}
use Rattle.gix_base.specs.declared.hash.ObjectId.{ObjectId}
use Rattle.gix_revwalk.specs.History.{Entry}
use Rattle.gix_ids.specs.TableForm.{id_of}
use Rattle.gix_ids.specs.TableLookup.{IsAt}
use Rattle.gix_ids.specs.declared.table.Table.{Table}
use Rattle.gix_commitgraph.specs.FileChunks.{layout_of}
use Rattle.gix_commitgraph.specs.FileCommits.{entry_of_row, others, parents_at}
use Rattle.gix_commitgraph.specs.declared.commit_graph.layout.Layout.{Layout}
use Rattle.gix_commitgraph.specs.declared.position.Place.{Place}
use Rattle.gix_graph_rows.specs.declared.front.Layout.{Layout as Fronts}
use Rattle.gix_graph_rows.specs.declared.hints.Hint.{Hint}

-- Where the fanout table and the ids of a file are, by what was read of its front.
abbrev pub ids_of : Fronts → Table
ids_of l = record { count = l.count; fanout = l.fanout; ids = l.ids }

-- The layout of a file by what was read of its front.
abbrev pub layout_from : Fronts → Layout
layout_from l = record {
  table = ids_of l;
  rows = l.rows;
  edges = l.edges.start;
  edge_count = l.edges.len / 4;
}

-- A file: its bytes, and where its chunks are, by what was read of its front.
pub record Said : Type 0 where
  pub bytes : List ℕ
  pub layout : Layout

-- A file, with the layout that its table of contents says.
abbrev pub said_in : List ℕ → Said
said_in s = record { bytes = s; layout = layout_of s }

-- The positions of all parents of a row, by its first and second number a and b (`parents_at`).
abbrev pub named_by : Said → ℕ → ℕ → List ℕ
named_by f a b = cond (nat_eq a 0x7000_0000) [] (a ∷ others f.bytes f.layout b)

-- The id at a position of a chain. The base comes first, and positions count through all files.
abbrev pub id_there : List Said → ℕ → ObjectId
id_there [] p = record { 0 = [] }
id_there (f ∷ fs) p = cond (nat_lt p f.layout.table.count) (id_of f.bytes f.layout.table p) (id_there fs (p - f.layout.table.count))

-- The commit of row i of a file of the chain fs, with the ids at the positions of its parents.
abbrev pub entry_there : List Said → Said → ℕ → Entry
entry_there fs f i = record {
  parents = map (id_there fs) (parents_at f.bytes f.layout i);
  time = (entry_of_row f.bytes f.layout i).time;
  generation = (entry_of_row f.bytes f.layout i).generation;
}

-- The file with a number in a chain; a file without commits if the chain has fewer files.
abbrev pub file_at : List Said → ℕ → Said
file_at fs k = slice_index_or fs k (record { bytes = []; layout = record { table = record { count = 0; fanout = 0; ids = 0 }; rows = 0; edges = 0; edge_count = 0 } })

-- The row at a place of the chain has this id.
pub record IsPlaceOf (fs : List Said) (id : ObjectId) (p : Place) : Type 0 where
  pub there : IsAt (file_at fs p.layer).bytes (file_at fs p.layer).layout.table id p.row

-- A row of the chain has this id, and says the commit e.
pub record IsRow (fs : List Said) (id : ObjectId) (e : Entry) : Type 0 where
  pub place : Place
  pub found : IsPlaceOf fs id place
  pub says : e ≡ entry_there fs (file_at fs place.layer) place.row

-- A row of a chain of files with these contents, the base first, has this id, and says the commit e.
abbrev pub IsCommit : List (List ℕ) → ObjectId → Entry → Type 0
IsCommit contents id e = IsRow (map said_in contents) id e

-- Each row that is kept as the place of an id has this id, if the chain has the file.
pub record AreHints (fs : List Said) (hints : List Hint) : Type 0 where
  pub all : All (λ h. h.place.layer < length fs → IsPlaceOf fs h.id h.place) hints
