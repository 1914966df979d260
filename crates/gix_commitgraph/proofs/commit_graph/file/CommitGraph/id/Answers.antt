use Rattle.std.proofs.Common.{Some, ap, sym, ◌∙◌, arith}
use Rattle.std.specs.Option.{option_map}
use Rattle.gix_base.specs.declared.hash.ObjectId.{ObjectId}
use Rattle.gix_revwalk.specs.History.{Entry}
use Rattle.gix_ids.specs.TableForm.{id_of}
use Rattle.gix_commitgraph.proofs.History.{history-id, history-past}
use Rattle.gix_commitgraph.proofs.commit_graph.file.CommitGraph.id.Goals as goal

pub returns-then-position-self : goal.returns-then-position-self
returns-then-position-self g c =
    let s = g.B.AsSlice.items c.self.inside.bytes in
    let l = c.self.inside.layout in
    rw (← c.self.view_is) (ap Some (c.id_at.ensures ∙ ap (λ b. id_of b l.table c.args.position) c.as_slice.ensures) ∙ sym (history-id s l c.self.invariant.0 c.args.position c.if-position-self.true))

pub returns-else-position-self : goal.returns-else-position-self
returns-else-position-self g c =
    let s = g.B.AsSlice.items c.self.inside.bytes in
    let l = c.self.inside.layout in
    rw (← c.self.view_is) (sym (ap (option_map (λ (e : ObjectId × Entry). e.0)) (history-past s l c.self.invariant.0 c.args.position (omega arith))))
