-- The files that are a chain (gitformat-commit-graph, "Chunk: base graphs").
use Rattle.std.specs.Prelude.{◌≡◌, ℕ, ◌+◌, ◌-◌, ◌*◌, ◌<◌, ⊤, List, [], ◌∷◌, ◌++◌, length, take, drop, slice_index, Some, None}
use Rattle.std.specs.Option.{option_map}
use Rattle.gix_revwalk.specs.History.{History, entry_at}
use Rattle.gix_ids.specs.TableForm.{id_of}
use Rattle.gix_ids.specs.TableIds.{rows_from}
use Rattle.gix_commitgraph.specs.FileChunks.{chunk_at, layout_of}
use Rattle.gix_commitgraph.specs.FileCommits.{history_in}
use Rattle.gix_commitgraph.specs.FileChecks.{IsSoundIn}
use Rattle.gix_commitgraph.specs.FileFormat.{HasHeader, HasTable, HasChunks, IsCommitGraph}
use Rattle.gix_commitgraph.specs.FileHash.{HashIsRight}
use Rattle.gix_commitgraph.specs.ChainCommits.{entry_in, ids_of, layer_in}
use Rattle.gix_commitgraph.specs.declared.commit_graph.layout.Chunk.{Chunk}

-- The chunk id BASE, as the number of its 4 letters.
abbrev pub base : ℕ
base = 0x4241_5345

-- The hash at the end of the file s.
abbrev pub hash_of : List ℕ → List ℕ
hash_of s = drop (length s - 20) s

-- The bytes of a chunk of the file s.
abbrev pub chunk_bytes : List ℕ → Chunk → List ℕ
chunk_bytes s c = take (c.end - c.start) (drop c.start s)

-- The base graphs of the file s are the files with these hashes: its header has their number, and
-- its chunk BASE has exactly the hashes, one after another, the lowest first.
pub record IsOver (hashes s : List ℕ) : Type 0 where
  pub count : 20 * slice_index s 7 ≡ length hashes
  pub named : option_map (chunk_bytes s) (chunk_at s base) ≡ Some hashes

-- The file s is one of a chain over files with these hashes, and with n commits in all. It is
-- well-formed, and the hash at its end is right. The positions of its parents are less than n plus
-- the number of its own commits.
pub record IsLayer (hashes : List ℕ) (n : ℕ) (s : List ℕ) : Type 0 where
  pub header : HasHeader s
  pub table : HasTable s
  pub chunks : HasChunks s
  pub over : IsOver hashes s
  pub hash : HashIsRight s
  pub sound : IsSoundIn s (layout_of s) (n + (layout_of s).table.count)

-- No commit of the file s is in the history h of the files below it, or twice in s.
abbrev pub IsFresh : History → List ℕ → Type 0
IsFresh h s =
    (i : ℕ) → i < (layout_of s).table.count
    → entry_at (h ++ rows_from s (layout_of s).table (entry_in (ids_of h) s (layout_of s)) 0 i) (id_of s (layout_of s).table i) ≡ None

-- The files are the upper ones of a chain over files with these hashes and the history h. Each is
-- as IsLayer and IsFresh say, over the files below it.
abbrev pub AreLayers : List ℕ → History → List (List ℕ) → Type 0
AreLayers hashes h [] = ⊤
AreLayers hashes h (s ∷ files) =
    IsLayer hashes (length (ids_of h)) s × IsFresh h s × AreLayers (hashes ++ hash_of s) (h ++ layer_in h s) files

-- The files are a chain, the lowest first. The lowest is a commit-graph file without base graphs.
-- An empty list is not a chain.
abbrev pub IsChain : List (List ℕ) → Type 0
IsChain [] = ⊥
IsChain (s ∷ files) = IsCommitGraph s × AreLayers (hash_of s) (history_in s) files
