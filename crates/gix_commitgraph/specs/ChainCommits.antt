-- The commits of a chain of files (gitformat-commit-graph, "Chunk: base graphs", and git's
-- technical/commit-graph, "Commit Graph Chains"). The positions of parents count through all files
-- of the chain, from the lowest on.
use Rattle.std.specs.Prelude.{ℕ, ◌-◌, List, [], ◌∷◌, ◌++◌, length, map, slice_get}
use Rattle.std.specs.Option.{unwrap_or}
use Rattle.gix_base.specs.declared.hash.ObjectId.{ObjectId}
use Rattle.gix_revwalk.specs.History.{History, Entry}
use Rattle.gix_ids.specs.TableForm.{id_of}
use Rattle.gix_ids.specs.TableIds.{rows_in}
use Rattle.gix_commitgraph.specs.FileChunks.{layout_of}
use Rattle.gix_commitgraph.specs.FileCommits.{entry_of_row, history_in, parents_at}
use Rattle.gix_commitgraph.specs.declared.commit_graph.layout.Layout.{Layout}

-- The ids of the commits of the history h, in its order.
abbrev pub ids_of : History → List ObjectId
ids_of h = map (λ (e : ObjectId × Entry). e.0) h

module _ (below : List ObjectId) (s : List ℕ) (l : Layout) where
  -- The id at position p of the chain, if below are the ids of the files below the file s.
  abbrev pub id_in : ℕ → ObjectId
  id_in p = unwrap_or (slice_get below p) (id_of s l.table (p - length below))

  -- The commit at position i of the file s, with the ids of its parents in the chain.
  abbrev pub entry_in : ℕ → Entry
  entry_in i = record {
    parents = map id_in (parents_at s l i);
    time = (entry_of_row s l i).time;
    generation = (entry_of_row s l i).generation;
  }

-- The commits of the file s, if the history h is that of the files below it.
abbrev pub layer_in : History → List ℕ → History
layer_in h s = rows_in s (layout_of s).table (entry_in (ids_of h) s (layout_of s))

-- The commits of files, if the history h is that of the files below them.
abbrev pub layers_in : History → List (List ℕ) → History
layers_in h [] = []
layers_in h (s ∷ files) = layer_in h s ++ layers_in (h ++ layer_in h s) files

-- The commits of a chain of files, the lowest first.
abbrev pub chain_in : List (List ℕ) → History
chain_in [] = []
chain_in (s ∷ files) = history_in s ++ layers_in (history_in s) files
