-- Files that are refused.
use Rattle.std.proofs.Common.{◌≡◌, ℕ, ◌+◌, ◌*◌, inl, inr, List, Option, Some, None, sym, ap, ◌∙◌, subst, arith}
use Rattle.gix_ids.specs.TableBytes.{word}
use Rattle.gix_commitgraph.specs.FileChunks.{chunk_at, start_of, layout_of, cdat, edge, oidf, oidl}
use Rattle.gix_commitgraph.specs.FileFormat.{MustHave, MayHave, HasHeader, HasTable, HasChunks}
use Rattle.gix_commitgraph.specs.FileChecks.{IsSoundIn}
use Rattle.gix_commitgraph.specs.FileRefused.{IsWrong, IsMisshapen, IsLacking}
use Rattle.gix_commitgraph.specs.declared.commit_graph.layout.Chunk.{Chunk}
use Rattle.gix_commitgraph.specs.declared.commit_graph.layout.Layout.{Layout}
use Rattle.gix_commitgraph.specs.declared.commit_graph.fault.OpenFault.{OpenFault}
use Rattle.gix_commitgraph.specs.declared.commit_graph.fault.OpenFault.TheVariants.{TooShort, Signature, Version, Hash, BaseGraphs, NoChunkId, Repeated, ChunkPlace, TableEnd, NoFanout, NoIds, NoRows, ChunkSize, Fanout, IdOrder, IdPlace, Parent, EdgeParent, EdgeEnd, EdgeOrder}

-- ---- one chunk

pub count-made : (s : List ℕ) (f n : ℕ) → f ≡ start_of (chunk_at s oidf) → n ≡ word s (f + 1020) → n ≡ (layout_of s).table.count
unfolding layout_of
count-made s f n e w = w ∙ ap (λ x. word s (x + 1020)) e

-- the chunks of a layout are those of its file
pub chunks-made : (s : List ℕ) (l : Layout) → l ≡ layout_of s → MustHave (chunk_at s oidf) 1024 → MustHave (chunk_at s oidl) (20 * l.table.count)
    → MustHave (chunk_at s cdat) (36 * l.table.count) → MayHave (chunk_at s edge) (4 * l.edge_count) → HasChunks s
chunks-made s l e fanout ids rows edges =
    let P : Layout → Type 0 = λ m. MustHave (chunk_at s oidl) (20 * m.table.count) in
    let Q : Layout → Type 0 = λ m. MustHave (chunk_at s cdat) (36 * m.table.count) in
    let R : Layout → Type 0 = λ m. MayHave (chunk_at s edge) (4 * m.edge_count) in
    record { fanout = fanout; ids = subst P e ids; rows = subst Q e rows; edges = subst R e edges }

is : (s : List ℕ) (a e : OpenFault) → e ≡ a → IsMisshapen s a → IsMisshapen s e
is s a e q m = let P : OpenFault → Type 0 = IsMisshapen s in subst P (sym q) m

-- a chunk that is lacking makes the file misshapen
pub lacking-ids : (s : List ℕ) (n : ℕ) (e : OpenFault) → n ≡ (layout_of s).table.count → IsLacking s oidl (20 * n) NoIds e → IsMisshapen s e
lacking-ids s n e same (inl none) = is s NoIds e none.0 none.1
lacking-ids s n e same (inr size) =
    let P : ℕ → Type 0 = λ m. MustHave (chunk_at s oidl) (20 * m) in
    is s ChunkSize e size.0 (λ has. size.1 (subst P (sym same) has.ids))

pub lacking-rows : (s : List ℕ) (n : ℕ) (e : OpenFault) → n ≡ (layout_of s).table.count → IsLacking s cdat (36 * n) NoRows e → IsMisshapen s e
lacking-rows s n e same (inl none) = is s NoRows e none.0 none.1
lacking-rows s n e same (inr size) =
    let P : ℕ → Type 0 = λ m. MustHave (chunk_at s cdat) (36 * m) in
    is s ChunkSize e size.0 (λ has. size.1 (subst P (sym same) has.rows))

-- ---- what is refused is no commit-graph file

must-be : (o : Option Chunk) (n : ℕ) → MustHave o n → o ≡ None → ⊥
must-be None n h e = h
must-be (Some c) n h e = cc

pub misshapen-refutes : (s : List ℕ) (e : OpenFault) → IsMisshapen s e → HasHeader s → HasTable s → HasChunks s → ⊥
misshapen-refutes s TooShort m header table chunks = let t = header.table in omega arith
misshapen-refutes s Signature m header table chunks = m header.signature
misshapen-refutes s Version m header table chunks = m header.version
misshapen-refutes s Hash m header table chunks = m header.hash
misshapen-refutes s BaseGraphs m header table chunks = m
misshapen-refutes s NoChunkId m header table chunks = (table.rows m.0 m.1).named m.2
misshapen-refutes s Repeated m header table chunks = m.2 (table.rows m.0 m.1).once
misshapen-refutes s ChunkPlace (i, h, inl falls) header table chunks = let r = (table.rows i h).rises in omega arith
misshapen-refutes s ChunkPlace (i, h, inr long) header table chunks = let r = (table.rows i h).inside in omega arith
misshapen-refutes s TableEnd m header table chunks = m table.ended
misshapen-refutes s NoFanout m header table chunks = must-be (chunk_at s oidf) 1024 chunks.fanout m
misshapen-refutes s NoIds m header table chunks = must-be (chunk_at s oidl) (20 * (layout_of s).table.count) chunks.ids m
misshapen-refutes s NoRows m header table chunks = must-be (chunk_at s cdat) (36 * (layout_of s).table.count) chunks.rows m
misshapen-refutes s ChunkSize m header table chunks = m chunks
misshapen-refutes s Fanout m header table chunks = m
misshapen-refutes s IdOrder m header table chunks = m
misshapen-refutes s IdPlace m header table chunks = m
misshapen-refutes s Parent m header table chunks = m
misshapen-refutes s EdgeParent m header table chunks = m
misshapen-refutes s EdgeEnd m header table chunks = m
misshapen-refutes s EdgeOrder m header table chunks = m

pub wrong-refutes : (s : List ℕ) (n : ℕ) (e : OpenFault) → IsWrong s (layout_of s) n e → IsSoundIn s (layout_of s) n → ⊥
wrong-refutes s n Fanout w g = w.2 (g.sorted.fans w.0 w.1)
wrong-refutes s n IdPlace w g = w.2 (g.sorted.fanned w.0 w.1)
wrong-refutes s n IdOrder w g = w.2 (g.sorted.rises w.0 w.1)
wrong-refutes s n Parent w g = w.2 (g.parents w.0 w.1)
wrong-refutes s n EdgeParent w g = w.2 (g.edges w.0 w.1)
wrong-refutes s n EdgeEnd w g = let h = g.ended w.0 in let b = w.1 in omega arith
wrong-refutes s n EdgeOrder (i, j, less, here, w) g = w (g.lists i j less here)
wrong-refutes s n TooShort w g = w
wrong-refutes s n Signature w g = w
wrong-refutes s n Version w g = w
wrong-refutes s n Hash w g = w
wrong-refutes s n BaseGraphs w g = w
wrong-refutes s n NoChunkId w g = w
wrong-refutes s n Repeated w g = w
wrong-refutes s n ChunkPlace w g = w
wrong-refutes s n TableEnd w g = w
wrong-refutes s n NoFanout w g = w
wrong-refutes s n NoIds w g = w
wrong-refutes s n NoRows w g = w
wrong-refutes s n ChunkSize w g = w
