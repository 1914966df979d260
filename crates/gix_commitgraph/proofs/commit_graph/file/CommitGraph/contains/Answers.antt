use Rattle.std.proofs.Common.{subst, ◌∙◌, List, ℕ}
use Rattle.std.specs.Prelude.{MatchOption}
use Rattle.gix_ids.specs.TableLookup.{IsAt, IsAbsent}
use Rattle.gix_commitgraph.proofs.History.{history-contains}
use Rattle.gix_commitgraph.proofs.commit_graph.file.CommitGraph.contains.Goals as goal

pub returns : goal.returns
returns g c =
    let s = g.B.AsSlice.items c.self.inside.bytes in
    let l = c.self.inside.layout in
    let P : List ℕ → Type 0 = λ b. MatchOption c.position.result (IsAbsent b l.table c.args.id) (IsAt b l.table c.args.id) in
    rw (← c.self.view_is) (c.is_some.ensures ∙ history-contains s l c.self.invariant.0 c.self.invariant.1.sorted c.args.id c.position.result (subst P c.as_slice.ensures c.position.ensures))
