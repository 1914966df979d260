use Rattle.gix_resolve.proofs.Answered.{not_so}
use Rattle.std.proofs.Common.{[], ◌∷◌, refl}
use Rattle.gix_revwalk.specs.History.{IsAncestor, IsAncestorOfOne, IsBeyond}
use Rattle.gix_merge_base.specs.PaintQueue.{ids_at}
use Rattle.gix_spec.specs.declared.spec.Spec.TheVariants.{Include, Range}
use Rattle.gix_resolve.specs.ListMeaning.{IsMeant}
use Rattle.gix_resolve.specs.ListWalk.{AreJust}
use Rattle.gix_resolve.proofs.ListMembers.{of-one, if-ok, just-none, lists-include, lists-exclude, lists-range}
use Rattle.gix_resolve.proofs.ListTaken.{only_same, only_wider}
use Rattle.gix_resolve.proofs.list.members.members.Goals as goal

pub returns-in-Include-clause-meant : goal.returns-in-Include-clause-meant
returns-in-Include-clause-meant g c =
    let h = g.S.Find.history c.args.graph.now.source in
    let id = c.in-Include.id in
    let new = c.ancestors_beyond.new.graph in
    rw c.in-Include.is (if-ok c.ancestors_beyond.result (λ numbers. AreJust new numbers.items (IsBeyond h [] (id ∷ []))) (λ numbers. AreJust new numbers.items (IsMeant h (Include id)))
    (λ numbers k. (k.0, lists-include h id (ids_at new numbers.items) k.1)) c.ancestors_beyond.ensures.beyond)

pub returns-in-Exclude-clause-meant : goal.returns-in-Exclude-clause-meant
returns-in-Exclude-clause-meant g c =
    let h = g.S.Find.history c.args.graph.now.source in
    just-none c.args.graph.now (IsMeant h c.args.spec) c.new.result.items c.new.ensures.items (lists-exclude h c.args.spec _ [] c.in-Exclude.is refl)

pub returns-in-Range-clause-meant : goal.returns-in-Range-clause-meant
returns-in-Range-clause-meant g c =
    let h = g.S.Find.history c.args.graph.now.source in
    let a = c.in-Range.from in
    let b = c.in-Range.to in
    let new = c.ancestors_beyond-in-Range.new.graph in
    rw c.in-Range.is (if-ok c.ancestors_beyond-in-Range.result (λ numbers. AreJust new numbers.items (IsBeyond h (a ∷ []) (b ∷ []))) (λ numbers. AreJust new numbers.items (IsMeant h (Range a b)))
    (λ numbers k. (k.0, lists-range h a b (ids_at new numbers.items) k.1)) c.ancestors_beyond-in-Range.ensures.beyond)

pub returns-in-Include-clause-taken : goal.returns-in-Include-clause-taken
returns-in-Include-clause-taken g c =
    let h = g.S.Find.history c.args.graph.now.source in
    rw c.in-Include.is (only_wider (IsAncestorOfOne h (c.in-Include.id ∷ [])) (IsAncestor h c.in-Include.id) c.args.graph.now c.ancestors_beyond.new.graph (λ q k. of-one h c.in-Include.id q k) c.ancestors_beyond.ensures.taken)

pub returns-in-Exclude-clause-taken : goal.returns-in-Exclude-clause-taken
returns-in-Exclude-clause-taken g c = only_same _ c.args.graph.now c.args.graph.now refl

pub returns-in-Exclude-clause-exclude : goal.returns-in-Exclude-clause-exclude
returns-in-Exclude-clause-exclude g c = λ is. (c.new.ensures.items, refl)

pub returns-in-Include-clause-exclude : goal.returns-in-Include-clause-exclude
returns-in-Include-clause-exclude g c = λ is. not_so (rw c.in-Include.is at is)

pub returns-in-Range-clause-exclude : goal.returns-in-Range-clause-exclude
returns-in-Range-clause-exclude g c = λ is. not_so (rw c.in-Range.is at is)

pub returns-in-Merge-clause-exclude : goal.returns-in-Merge-clause-exclude
returns-in-Merge-clause-exclude g c = λ is. not_so (rw c.in-Merge.is at is)

pub returns-in-IncludeOnlyParents-clause-exclude : goal.returns-in-IncludeOnlyParents-clause-exclude
returns-in-IncludeOnlyParents-clause-exclude g c = λ is. not_so (rw c.in-IncludeOnlyParents.is at is)

pub returns-in-ExcludeParents-clause-exclude : goal.returns-in-ExcludeParents-clause-exclude
returns-in-ExcludeParents-clause-exclude g c = λ is. not_so (rw c.in-ExcludeParents.is at is)

pub returns-in-Merge-clause-meant : goal.returns-in-Merge-clause-meant
returns-in-Merge-clause-meant g c = rw c.in-Merge.is c.ancestors_of_just_one.ensures.meant

pub returns-in-Merge-clause-taken : goal.returns-in-Merge-clause-taken
returns-in-Merge-clause-taken g c = rw c.in-Merge.is c.ancestors_of_just_one.ensures.taken

pub returns-in-IncludeOnlyParents-clause-meant : goal.returns-in-IncludeOnlyParents-clause-meant
returns-in-IncludeOnlyParents-clause-meant g c = rw c.in-IncludeOnlyParents.is c.ancestors_of_parents.ensures.meant

pub returns-in-IncludeOnlyParents-clause-taken : goal.returns-in-IncludeOnlyParents-clause-taken
returns-in-IncludeOnlyParents-clause-taken g c = rw c.in-IncludeOnlyParents.is c.ancestors_of_parents.ensures.taken

pub returns-in-ExcludeParents-clause-meant : goal.returns-in-ExcludeParents-clause-meant
returns-in-ExcludeParents-clause-meant g c = rw c.in-ExcludeParents.is c.alone.ensures.meant

pub returns-in-ExcludeParents-clause-taken : goal.returns-in-ExcludeParents-clause-taken
returns-in-ExcludeParents-clause-taken g c = rw c.in-ExcludeParents.is c.alone.ensures.taken

pub slice_bounds-ancestors_beyond-end-in-Include : goal.slice_bounds-ancestors_beyond-end-in-Include
slice_bounds-ancestors_beyond-end-in-Include g c = refl

pub slice_bounds-ancestors_beyond-end-in-Range : goal.slice_bounds-ancestors_beyond-end-in-Range
slice_bounds-ancestors_beyond-end-in-Range g c = refl

pub slice_bounds-ancestors_beyond-end-in-Range-2 : goal.slice_bounds-ancestors_beyond-end-in-Range-2
slice_bounds-ancestors_beyond-end-in-Range-2 g c = refl

pub returns-in-Include-clause-after : goal.returns-in-Include-clause-after
returns-in-Include-clause-after g c = c.ancestors_beyond.ensures.after

pub returns-in-Range-clause-after : goal.returns-in-Range-clause-after
returns-in-Range-clause-after g c = c.ancestors_beyond-in-Range.ensures.after

pub returns-in-Merge-clause-after : goal.returns-in-Merge-clause-after
returns-in-Merge-clause-after g c = c.ancestors_of_just_one.ensures.after

pub returns-in-IncludeOnlyParents-clause-after : goal.returns-in-IncludeOnlyParents-clause-after
returns-in-IncludeOnlyParents-clause-after g c = c.ancestors_of_parents.ensures.after

pub returns-in-ExcludeParents-clause-after : goal.returns-in-ExcludeParents-clause-after
returns-in-ExcludeParents-clause-after g c = c.alone.ensures.after
