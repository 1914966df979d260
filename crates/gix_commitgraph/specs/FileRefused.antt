-- What is wrong with a file that is not opened.
use Rattle.std.specs.Prelude.{◌≡◌, ◌≢◌, ◌⊎◌, ℕ, ◌+◌, ◌-◌, ◌*◌, ◌^◌, ◌<◌, List, length, take, codes, slice_index, Some, None}
use Rattle.gix_ids.specs.TableForm.{Fans, IsFanned, Rises}
use Rattle.gix_commitgraph.specs.FileCommits.{edge_word}
use Rattle.gix_commitgraph.specs.FileChunks.{row_count, tag_of, row_from, chunk_of, chunk_at, layout_of, cdat, oidf, oidl}
use Rattle.gix_commitgraph.specs.FileFormat.{MustHave, HasChunks}
use Rattle.gix_commitgraph.specs.FileChecks.{HasParents, NamesCommit, EndsBefore}
use Rattle.gix_commitgraph.specs.declared.commit_graph.layout.Layout.{Layout}
use Rattle.gix_commitgraph.specs.declared.commit_graph.fault.OpenFault.{OpenFault}
use Rattle.gix_commitgraph.specs.declared.commit_graph.fault.OpenFault.TheVariants.{TooShort, Signature, Version, Hash, BaseGraphs, NoChunkId, Repeated, ChunkPlace, TableEnd, NoFanout, NoIds, NoRows, ChunkSize, Fanout, IdOrder, IdPlace, Parent, EdgeParent, EdgeEnd, EdgeOrder}

-- What the fault says of the fanout table, the ids, the parents or EDGE of the file s is true. The
-- positions of parents are to be less than n.
abbrev pub IsWrong : List ℕ → Layout → ℕ → OpenFault → Type 0
IsWrong s l n Fanout = (b : ℕ) × (b < 256) × (¬ Fans s l.table b)
IsWrong s l n IdPlace = (i : ℕ) × (i < l.table.count) × (¬ IsFanned s l.table i)
IsWrong s l n IdOrder = (i : ℕ) × (i + 1 < l.table.count) × (¬ Rises s l.table i)
IsWrong s l n Parent = (i : ℕ) × (i < l.table.count) × (¬ HasParents s l n i)
IsWrong s l n EdgeParent = (k : ℕ) × (k < l.edge_count) × (¬ NamesCommit s l n k)
IsWrong s l n EdgeEnd = (0 < l.edge_count) × (edge_word s l (l.edge_count - 1) < 2 ^ 31)
IsWrong s l n EdgeOrder = (i : ℕ) × (j : ℕ) × (i < j) × (j < l.table.count) × (¬ EndsBefore s l i j)
IsWrong s l n _ = ⊥

-- What the fault says of the header, the table of contents or the sizes of chunks of the file s is
-- true.
abbrev pub IsMisshapen : List ℕ → OpenFault → Type 0
IsMisshapen s TooShort = length s < 40 + 12 * row_count s
IsMisshapen s Signature = take 4 s ≢ codes "CGPH"
IsMisshapen s Version = slice_index s 4 ≢ 1
IsMisshapen s Hash = slice_index s 5 ≢ 1
IsMisshapen s NoChunkId = (i : ℕ) × (i < row_count s) × (tag_of s i ≡ 0)
IsMisshapen s Repeated = (i : ℕ) × (i < row_count s) × (row_from s (tag_of s i) 0 (row_count s) ≢ Some i)
IsMisshapen s ChunkPlace = (i : ℕ) × (i < row_count s) × (((chunk_of s i).end < (chunk_of s i).start) ⊎ (length s < (chunk_of s i).end + 20))
IsMisshapen s TableEnd = tag_of s (row_count s) ≢ 0
IsMisshapen s NoFanout = chunk_at s oidf ≡ None
IsMisshapen s NoIds = chunk_at s oidl ≡ None
IsMisshapen s NoRows = chunk_at s cdat ≡ None
IsMisshapen s ChunkSize = ¬ HasChunks s
IsMisshapen s _ = ⊥

-- Either e is missing and the file s has no chunk tag, or e is ChunkSize and s has no chunk tag of n
-- bytes.
abbrev pub IsLacking : List ℕ → ℕ → ℕ → OpenFault → OpenFault → Type 0
IsLacking s tag n missing e =
    ((e ≡ missing) × (chunk_at s tag ≡ None)) ⊎ ((e ≡ ChunkSize) × (¬ MustHave (chunk_at s tag) n))

-- The fault e is BaseGraphs, and the file s has base graphs.
abbrev pub HasBases : List ℕ → OpenFault → Type 0
HasBases s e = (e ≡ BaseGraphs) × (slice_index s 7 ≢ 0)

-- What the fault e says of the file s is true.
abbrev pub IsRefused : List ℕ → OpenFault → Type 0
IsRefused s e =
    IsMisshapen s e ⊎ (HasBases s e ⊎ IsWrong s (layout_of s) (layout_of s).table.count e)
