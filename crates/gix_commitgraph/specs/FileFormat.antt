-- The files that can be opened (gitformat-commit-graph, "File Layout"): version 1, SHA-1 ids, no
-- base graphs.
use Rattle.std.specs.Prelude.{◌≡◌, ◌≢◌, ℕ, ◌+◌, ◌*◌, ◌≤◌, ◌<◌, List, length, take, codes, slice_index, Option, Some, None}
use Rattle.gix_commitgraph.specs.FileChunks.{row_count, tag_of, row_from, chunk_of, chunk_at, layout_of, cdat, edge, oidf, oidl}
use Rattle.gix_commitgraph.specs.FileChecks.{IsSound}
use Rattle.gix_commitgraph.specs.declared.commit_graph.layout.Chunk.{Chunk}

-- The file begins with a header of 8 bytes. The table of contents follows, with 12 bytes for each
-- chunk and 12 more. The file ends with a hash of 20 bytes.
pub record HasHeader (s : List ℕ) : Type 0 where
  pub signature : take 4 s ≡ codes "CGPH"
  pub version : slice_index s 4 ≡ 1
  pub hash : slice_index s 5 ≡ 1
  pub table : 40 + 12 * row_count s ≤ length s

-- Row i of the table of contents has a chunk id, and no row before it has the same one. Its chunk
-- does not end before it begins, and does not reach into the hash.
pub record IsRow (s : List ℕ) (i : ℕ) : Type 0 where
  pub named : tag_of s i ≢ 0
  pub once : row_from s (tag_of s i) 0 (row_count s) ≡ Some i
  pub rises : (chunk_of s i).start ≤ (chunk_of s i).end
  pub inside : (chunk_of s i).end + 20 ≤ length s

-- The rows of the table of contents are as in IsRow, and its last row has no chunk id.
pub record HasTable (s : List ℕ) : Type 0 where
  pub rows : (i : ℕ) → i < row_count s → IsRow s i
  pub ended : tag_of s (row_count s) ≡ 0

-- The chunk exists and has n bytes.
abbrev pub MustHave : Option Chunk → ℕ → Type 0
MustHave None n = ⊥
MustHave (Some c) n = c.start + n ≡ c.end

-- If the chunk exists, it has n bytes.
abbrev pub MayHave : Option Chunk → ℕ → Type 0
MayHave None n = Unit {0}
MayHave (Some c) n = c.start + n ≡ c.end

-- OIDF has 256 numbers of 4 bytes. OIDL has 20 bytes for each commit, and CDAT has 36. The size of
-- EDGE, if it exists, is a multiple of 4 bytes.
pub record HasChunks (s : List ℕ) : Type 0 where
  pub fanout : MustHave (chunk_at s oidf) 1024
  pub ids : MustHave (chunk_at s oidl) (20 * (layout_of s).table.count)
  pub rows : MustHave (chunk_at s cdat) (36 * (layout_of s).table.count)
  pub edges : MayHave (chunk_at s edge) (4 * (layout_of s).edge_count)

-- The bytes s are a well-formed commit-graph file without base graphs: header, table of contents,
-- chunks and commits are as HasHeader, HasTable, HasChunks and IsSound say.
pub record IsCommitGraph (s : List ℕ) : Type 0 where
  pub header : HasHeader s
  pub no_base : slice_index s 7 ≡ 0
  pub table : HasTable s
  pub chunks : HasChunks s
  pub sound : IsSound s (layout_of s)
