use Rattle.std.below.core.proofs.iter.Serving.{as_err}
use Rattle.std.proofs.Common.{◌≡◌, ◌∙◌, []}
use Rattle.gix_revwalk.specs.History.{entry_at, parents_in, IsBeyond}
use Rattle.gix_revwalk.specs.Sizes.{HasSize}
use Rattle.gix_spec.specs.declared.spec.Spec.TheVariants.{IncludeOnlyParents}
use Rattle.gix_resolve.specs.ListMeaning.{IsMeant}
use Rattle.gix_resolve.proofs.ListMembers.{if-ok}
use Rattle.gix_resolve.proofs.ListCounts.{size-parents}
use Rattle.gix_resolve.proofs.ListTaken.{only_itself, only_above}
use Rattle.gix_resolve.proofs.list.count.count_of_parents.Goals as goal

pub returns-clause-size : goal.returns-clause-size
returns-clause-size g c =
    let h = g.S.Find.history c.args.graph.now.source in
    let is : c.deref.result.now ≡ parents_in (entry_at h c.args.id) = c.deref.ensures.value ∙ c.in_ok-parents.ensures.parents in
    if-ok c.count_beyond.result (HasSize (IsBeyond h [] c.deref.result.now)) (HasSize (IsMeant h (IncludeOnlyParents c.args.id)))
    (λ n k. size-parents h c.args.id c.deref.result.now n is k) (rw c.parents_of.ensures.after.same_history at c.count_beyond.ensures.size)

pub returns-in_err-parents-clause-taken : goal.returns-in_err-parents-clause-taken
returns-in_err-parents-clause-taken g c = only_itself (g.S.Find.history c.args.graph.now.source) c.args.id c.args.graph.now c.parents_of.new.graph c.parents_of.ensures.taken

pub returns-clause-taken : goal.returns-clause-taken
returns-clause-taken g c =
    only_above (g.S.Find.history c.args.graph.now.source) c.args.id c.deref.result.now c.args.graph.now c.parents_of.new.graph c.count_beyond.new.graph
    (c.deref.ensures.value ∙ c.in_ok-parents.ensures.parents) c.parents_of.ensures.taken (rw c.parents_of.ensures.after.same_history at c.count_beyond.ensures.taken)

pub returns-in_err-parents-clause-size : goal.returns-in_err-parents-clause-size
returns-in_err-parents-clause-size g c = rw (as_err c.from_residual.ensures.0).1 tt
