-- The table of contents.
use Rattle.std.proofs.Common.{◌≡◌, ◌≢◌, ℕ, suc, ◌+◌, ◌-◌, ◌*◌, ◌/◌, ◌<◌, List, nat_eq, false, refl, ap, ◌∙◌, arith}
use Rattle.std.proofs.lemmas.Bool.Decides.{nat_tests}
use Rattle.gix_ids.specs.TableBytes.{word}
use Rattle.gix_commitgraph.specs.FileChunks.{row_from, chunk_at, start_of, size_of, layout_of, cdat, edge, oidf, oidl}
use Rattle.gix_commitgraph.specs.declared.commit_graph.layout.Layout.{Layout}

-- a row of another chunk is passed
pub row-passed : (s : List ℕ) (tag i n : ℕ) → i < n → (word s (8 + 12 * i) ≢ tag) → row_from s tag (i + 1) (n - (i + 1)) ≡ row_from s tag i (n - i)
row-passed s tag i n h ne =
    let e : nat_eq (word s (8 + 12 * i)) tag ≡ false = grind (arith, nat_tests) in
    let k : n - i ≡ suc (n - (i + 1)) = omega arith in
    rw (k, e) refl

-- a layout is that of a file, where its fields are
pub layout-made : (s : List ℕ) (l : Layout) → l.table.fanout ≡ start_of (chunk_at s oidf) → l.table.count ≡ word s (l.table.fanout + 1020)
    → l.table.ids ≡ start_of (chunk_at s oidl) → l.rows ≡ start_of (chunk_at s cdat)
    → l.edges ≡ start_of (chunk_at s edge) → l.edge_count * 4 ≡ size_of (chunk_at s edge) → l ≡ layout_of s
unfolding layout_of
layout-made s l fanout count ids rows edges sized =
    let e : l.edge_count ≡ size_of (chunk_at s edge) / 4 = omega arith in
    let n : l.table.count ≡ word s (start_of (chunk_at s oidf) + 1020) = count ∙ ap (λ f. word s (f + 1020)) fanout in
    λ i. record { table = record { count = n i; fanout = fanout i; ids = ids i }; rows = rows i; edges = edges i; edge_count = e i }
