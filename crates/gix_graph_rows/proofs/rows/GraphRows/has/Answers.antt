use Rattle.std.proofs.Common.{rules, length, ap, ◌∙◌}
use Rattle.gix_graph_rows.specs.FilesRead.{files_of}
use Rattle.gix_graph_rows.proofs.SameFiles.{refilled, hints_on, at_on}
use Rattle.gix_graph_rows.proofs.rows.GraphRows.has.Goals as goal

pub invariant_of-self-in-None : goal.invariant_of-self-in-None
invariant_of-self-in-None g c =
    let kept = refilled c.args.self.now.layers.len c.args.self.now.layers.items c.find.new.layers (search rules) (c.find.ensures.same ∙ ap length c.deref_mut.ensures.value) in
    record { known = λ k. hints_on _ _ _ (ap files_of kept ∙ c.find.ensures.files ∙ ap files_of c.deref_mut.ensures.value) (c.args.self.now.known k) }

pub invariant_of-self-in-Some : goal.invariant_of-self-in-Some
invariant_of-self-in-Some g c =
    let kept = refilled c.args.self.now.layers.len c.args.self.now.layers.items c.find.new.layers (search rules) (c.find.ensures.same ∙ ap length c.deref_mut.ensures.value) in
    record { known = λ k. hints_on _ _ _ (ap files_of kept ∙ c.find.ensures.files ∙ ap files_of c.deref_mut.ensures.value) (c.note.ensures _ (c.args.self.now.known k) (at_on _ _ _ _ _ (ap files_of c.deref_mut.ensures.value) c.in-Some.is (c.in_ok-place.ensures.value k))) }
