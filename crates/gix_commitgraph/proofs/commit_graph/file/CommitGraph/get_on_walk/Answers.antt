use Rattle.std.proofs.Common.{ap, sym, subst, ◌∙◌, Some, List, ℕ}
use Rattle.gix_ids.specs.TableLookup.{IsAt, IsAbsent}
use Rattle.gix_commitgraph.specs.FileCommits.{entry_of_row}
use Rattle.gix_commitgraph.proofs.History.{history-has, history-lacks}
use Rattle.gix_commitgraph.proofs.commit_graph.file.CommitGraph.get_on_walk.Goals as goal

pub returns-in_default-clause-found : goal.returns-in_default-clause-found
returns-in_default-clause-found g c =
    let s = g.B.AsSlice.items c.self.inside.bytes in
    let l = c.self.inside.layout in
    let P : List ℕ → Type 0 = λ b. IsAbsent b l.table c.args.id in
    rw (← c.self.view_is) (sym (history-lacks s l c.self.invariant.0 c.args.id (subst P c.as_slice-bytes.ensures c.in_default.ensures)))

pub returns-clause-found : goal.returns-clause-found
returns-clause-found g c =
    let s = g.B.AsSlice.items c.self.inside.bytes in
    let l = c.self.inside.layout in
    let P : List ℕ → Type 0 = λ b. IsAt b l.table c.args.id c.in-Some.i in
    let has = history-has s l c.self.invariant.0 c.self.invariant.1.sorted c.args.id c.in-Some.i (subst P c.as_slice-bytes.ensures c.in-Some.ensures) in
    rw (← c.self.view_is) (ap Some (c.in_ok-commit.ensures ∙ ap (λ b. entry_of_row b l c.in-Some.i) c.as_slice-bytes.ensures) ∙ sym has)
