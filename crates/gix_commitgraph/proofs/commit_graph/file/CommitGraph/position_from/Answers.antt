use Rattle.std.proofs.Common.{subst, List, ℕ}
use Rattle.gix_ids.specs.TableLookup.{IsAt, IsGap}
use Rattle.gix_commitgraph.proofs.History.{ids-first-at, ids-first-gap, ids-rise}
use Rattle.gix_commitgraph.proofs.commit_graph.file.CommitGraph.position_from.Goals as goal

pub returns-in-Ok-clause-first : goal.returns-in-Ok-clause-first
returns-in-Ok-clause-first g c =
    let s = g.B.AsSlice.items c.self.inside.bytes in
    let l = c.self.inside.layout in
    let P : List ℕ → Type 0 = λ b. IsAt b l.table c.args.id c.in-Ok.place in
    rw (← c.self.view_is) (ids-first-at s l c.self.invariant.0 c.self.invariant.1.sorted c.args.id c.in-Ok.place (subst P c.as_slice.ensures c.in-Ok.ensures.place))

pub returns-in-Ok-clause-rising : goal.returns-in-Ok-clause-rising
returns-in-Ok-clause-rising g c =
    rw (← c.self.view_is) (ids-rise (g.B.AsSlice.items c.self.inside.bytes) c.self.inside.layout c.self.invariant.0 c.self.invariant.1.sorted)

pub returns-in-Err-clause-first : goal.returns-in-Err-clause-first
returns-in-Err-clause-first g c =
    let s = g.B.AsSlice.items c.self.inside.bytes in
    let l = c.self.inside.layout in
    let P : List ℕ → Type 0 = λ b. IsGap b l.table c.args.id c.in-Err.place in
    rw (← c.self.view_is) (ids-first-gap s l c.self.invariant.0 c.self.invariant.1.sorted c.args.id c.in-Err.place (subst P c.as_slice.ensures c.in-Err.ensures.place))

pub returns-in-Err-clause-rising : goal.returns-in-Err-clause-rising
returns-in-Err-clause-rising g c =
    rw (← c.self.view_is) (ids-rise (g.B.AsSlice.items c.self.inside.bytes) c.self.inside.layout c.self.invariant.0 c.self.invariant.1.sorted)
