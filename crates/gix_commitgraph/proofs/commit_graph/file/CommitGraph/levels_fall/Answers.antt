use Rattle.std.proofs.Common.{◌≡◌, ℕ, ◌^◌, ◌<◌, List, IsTrue, true, false, subst}
use Rattle.gix_commitgraph.specs.FileCommits.{level_at}
use Rattle.gix_commitgraph.specs.FileLevels.{is_above}
use Rattle.gix_commitgraph.proofs.Falling.{levelled, levels-fall, fall-tells}
use Rattle.gix_commitgraph.proofs.commit_graph.file.CommitGraph.levels_fall.Goals as goal

pub returns-clause-value : goal.returns-clause-value
returns-clause-value g c =
    let s = g.B.AsSlice.items c.self.inside.bytes in
    let l = c.self.inside.layout in
    let P : List ℕ → Type 0 = λ b. IsTrue c.fall.result → (i : ℕ) → i < l.table.count → is_above b l i ≡ true in
    let Q : List ℕ → Type 0 = λ b. c.fall.result ≡ false → (i : ℕ) × (i < l.table.count) × (is_above b l i ≡ false) in
    rw (← c.self.view_is) (
      λ t. levels-fall s l c.self.invariant.0 (subst P c.as_slice.ensures c.fall.ensures.each t),
      fall-tells s l c.self.invariant.0 c.fall.result (subst Q c.as_slice.ensures c.fall.ensures.one),
    )

pub returns-clause-levelled : goal.returns-clause-levelled
returns-clause-levelled g c t =
    let s = g.B.AsSlice.items c.self.inside.bytes in
    let l = c.self.inside.layout in
    let P : List ℕ → Type 0 = λ b. (i : ℕ) → i < l.table.count → is_above b l i ≡ true in
    let Q : List ℕ → Type 0 = λ b. (i : ℕ) → i < l.table.count → level_at b l i < 2 ^ 30 in
    rw (← c.self.view_is) (levelled s l c.self.invariant.0 c.self.invariant.1 (subst P c.as_slice.ensures (c.fall.ensures.each t)) (subst Q c.as_slice.ensures (c.fall.ensures.bounds t)))
