-- Where the chunks of a commit-graph file are (gitformat-commit-graph, "CHUNK LOOKUP").
use Rattle.std.specs.Prelude.{ℕ, zero, suc, ◌+◌, ◌-◌, ◌*◌, ◌/◌, List, cond, nat_eq, Option, Some, None, slice_index}
use Rattle.std.specs.Option.{option_map}
use Rattle.gix_ids.specs.TableBytes.{word, long}
use Rattle.gix_commitgraph.specs.declared.commit_graph.layout.Chunk.{Chunk}
use Rattle.gix_commitgraph.specs.declared.commit_graph.layout.Layout.{Layout}

-- The chunk id OIDF, as the number of its 4 letters. The chunk has the fanout table.
abbrev pub oidf : ℕ
oidf = 0x4f49_4446

-- The chunk id OIDL, as the number of its 4 letters. The chunk has the ids of the commits.
abbrev pub oidl : ℕ
oidl = 0x4f49_444c

-- The chunk id CDAT, as the number of its 4 letters. The chunk has a row for each commit.
abbrev pub cdat : ℕ
cdat = 0x4344_4154

-- The chunk id EDGE, as the number of its 4 letters. The chunk has the lists of further parents.
abbrev pub edge : ℕ
edge = 0x4544_4745

-- The number of rows of the table of contents, without the last one.
abbrev pub row_count : List ℕ → ℕ
row_count s = slice_index s 6

-- The chunk id in row i of the table of contents.
abbrev pub tag_of : List ℕ → ℕ → ℕ
tag_of s i = word s (8 + 12 * i)

-- Of the n rows from row i on, the first one with the chunk id tag.
abbrev pub row_from : List ℕ → ℕ → ℕ → ℕ → Option ℕ
row_from s tag i zero = None
row_from s tag i (suc n) = cond (nat_eq (tag_of s i) tag) (Some i) (row_from s tag (i + 1) n)

-- The chunk of row i begins at the offset in that row, and ends at the offset in the next row.
abbrev pub chunk_of : List ℕ → ℕ → Chunk
chunk_of s i = record { start = long s (12 + 12 * i); end = long s (24 + 12 * i) }

-- The chunk with the chunk id tag, if the table of contents has one.
unfoldable pub chunk_at : List ℕ → ℕ → Option Chunk
chunk_at s tag = option_map (chunk_of s) (row_from s tag 0 (row_count s))

-- The offset at which a chunk begins; 0 if there is no chunk.
abbrev pub start_of : Option Chunk → ℕ
start_of None = 0
start_of (Some c) = c.start

-- The number of bytes of a chunk; 0 if there is no chunk.
abbrev pub size_of : Option Chunk → ℕ
size_of None = 0
size_of (Some c) = c.end - c.start

-- The layout of the file s: the offsets of OIDF, OIDL, CDAT and EDGE, the number of commits, which
-- is the last number of OIDF, and the number of entries of EDGE.
unfoldable pub layout_of : List ℕ → Layout
layout_of s = record {
  table = record {
    count = word s (start_of (chunk_at s oidf) + 1020);
    fanout = start_of (chunk_at s oidf);
    ids = start_of (chunk_at s oidl);
  };
  rows = start_of (chunk_at s cdat);
  edges = start_of (chunk_at s edge);
  edge_count = size_of (chunk_at s edge) / 4;
}
