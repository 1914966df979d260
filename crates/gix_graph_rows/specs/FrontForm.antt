-- The chunks of a file, by the bytes of its header and table of contents (gitformat-commit-graph,
-- "CHUNK LOOKUP").
use Rattle.std.specs.Prelude.{ℕ, ◌+◌, ◌-◌, ◌*◌, List, Option, Some, None}
use Rattle.std.specs.Option.{option_map}
use Rattle.gix_ids.specs.TableBytes.{long}
use Rattle.gix_commitgraph.specs.FileChunks.{row_count, row_from}
use Rattle.gix_graph_rows.specs.declared.front.Chunk.{Chunk}

-- The chunk of row i of the table of contents: it ends where the chunk of the next row begins.
abbrev pub chunk_in : List ℕ → ℕ → Chunk
chunk_in bytes i = record { start = long bytes (12 + 12 * i); len = long bytes (24 + 12 * i) - long bytes (12 + 12 * i) }

-- The chunk with the chunk id tag, if the table of contents has one.
abbrev pub chunk_there : List ℕ → ℕ → Option Chunk
chunk_there bytes tag = option_map (chunk_in bytes) (row_from bytes tag 0 (row_count bytes))

-- The offset of a chunk; 0 if there is no chunk.
abbrev pub start_in : Option Chunk → ℕ
start_in None = 0
start_in (Some c) = c.start

-- The length of a chunk; 0 if there is no chunk.
abbrev pub len_in : Option Chunk → ℕ
len_in None = 0
len_in (Some c) = c.len
