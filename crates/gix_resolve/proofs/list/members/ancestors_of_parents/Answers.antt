use Rattle.std.below.core.proofs.iter.Serving.{as_err}
use Rattle.std.proofs.Common.{◌≡◌, ◌∙◌, []}
use Rattle.gix_revwalk.specs.History.{entry_at, parents_in, IsBeyond}
use Rattle.gix_merge_base.specs.PaintQueue.{ids_at}
use Rattle.gix_spec.specs.declared.spec.Spec.TheVariants.{IncludeOnlyParents}
use Rattle.gix_resolve.specs.ListMeaning.{IsMeant}
use Rattle.gix_resolve.specs.ListWalk.{AreJust}
use Rattle.gix_resolve.proofs.ListMembers.{if-ok, lists-parents}
use Rattle.gix_resolve.proofs.ListTaken.{only_itself, only_above}
use Rattle.gix_resolve.proofs.list.members.ancestors_of_parents.Goals as goal

pub returns-clause-meant : goal.returns-clause-meant
returns-clause-meant g c =
    let h = g.S.Find.history c.args.graph.now.source in
    let is : c.deref.result.now ≡ parents_in (entry_at h c.args.id) = c.deref.ensures.value ∙ c.in_ok-parents.ensures.parents in
    let new = c.ancestors_beyond.new.graph in
    if-ok c.ancestors_beyond.result (λ numbers. AreJust new numbers.items (IsBeyond h [] c.deref.result.now)) (λ numbers. AreJust new numbers.items (IsMeant h (IncludeOnlyParents c.args.id)))
    (λ numbers m. (m.0, lists-parents h c.args.id c.deref.result.now (ids_at new numbers.items) is m.1)) (rw c.parents_of.ensures.after.same_history at c.ancestors_beyond.ensures.beyond)

pub returns-in_err-parents-clause-taken : goal.returns-in_err-parents-clause-taken
returns-in_err-parents-clause-taken g c = only_itself (g.S.Find.history c.args.graph.now.source) c.args.id c.args.graph.now c.parents_of.new.graph c.parents_of.ensures.taken

pub returns-clause-taken : goal.returns-clause-taken
returns-clause-taken g c =
    only_above (g.S.Find.history c.args.graph.now.source) c.args.id c.deref.result.now c.args.graph.now c.parents_of.new.graph c.ancestors_beyond.new.graph
    (c.deref.ensures.value ∙ c.in_ok-parents.ensures.parents) c.parents_of.ensures.taken (rw c.parents_of.ensures.after.same_history at c.ancestors_beyond.ensures.taken)

pub returns-in_err-parents-clause-meant : goal.returns-in_err-parents-clause-meant
returns-in_err-parents-clause-meant g c = rw (as_err c.from_residual.ensures.0).1 tt
