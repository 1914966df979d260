use Rattle.gix_resolve.proofs.Answered.{not_so}
use Rattle.std.proofs.Common.{[], ◌∷◌, refl}
use Rattle.gix_revwalk.specs.History.{IsAncestor, IsAncestorOfOne, IsBeyond}
use Rattle.gix_revwalk.specs.Sizes.{HasSize}
use Rattle.gix_spec.specs.declared.spec.Spec.TheVariants.{Include, Range}
use Rattle.gix_resolve.specs.ListMeaning.{IsMeant}
use Rattle.gix_resolve.proofs.ListMembers.{of-one, if-ok}
use Rattle.gix_resolve.proofs.ListCounts.{size-include, size-exclude}
use Rattle.gix_resolve.proofs.ListTaken.{only_same, only_wider}
use Rattle.gix_resolve.proofs.ReachCounted.{size-range}
use Rattle.gix_resolve.proofs.list.count.count_members.Goals as goal

pub returns-in-Include-clause-size : goal.returns-in-Include-clause-size
returns-in-Include-clause-size g c =
    let h = g.S.Find.history c.args.graph.now.source in
    let id = c.in-Include.id in
    rw c.in-Include.is (if-ok c.count_beyond.result (HasSize (IsBeyond h [] (id ∷ []))) (HasSize (IsMeant h (Include id))) (λ n k. size-include h id n k) c.count_beyond.ensures.size)

pub returns-in-Exclude-clause-size : goal.returns-in-Exclude-clause-size
returns-in-Exclude-clause-size g c = size-exclude (g.S.Find.history c.args.graph.now.source) c.args.spec _ c.in-Exclude.is

pub returns-in-Range-clause-size : goal.returns-in-Range-clause-size
returns-in-Range-clause-size g c =
    let h = g.S.Find.history c.args.graph.now.source in
    let a = c.in-Range.from in
    let b = c.in-Range.to in
    rw c.in-Range.is (if-ok c.count_beyond-in-Range.result (HasSize (IsBeyond h (a ∷ []) (b ∷ []))) (HasSize (IsMeant h (Range a b))) (λ n k. size-range h a b n k) c.count_beyond-in-Range.ensures.size)

pub returns-in-Include-clause-taken : goal.returns-in-Include-clause-taken
returns-in-Include-clause-taken g c =
    let h = g.S.Find.history c.args.graph.now.source in
    rw c.in-Include.is (only_wider (IsAncestorOfOne h (c.in-Include.id ∷ [])) (IsAncestor h c.in-Include.id) c.args.graph.now c.count_beyond.new.graph (λ q k. of-one h c.in-Include.id q k) c.count_beyond.ensures.taken)

pub returns-in-Exclude-clause-taken : goal.returns-in-Exclude-clause-taken
returns-in-Exclude-clause-taken g c = only_same _ c.args.graph.now c.args.graph.now refl

pub returns-in-Exclude-clause-exclude : goal.returns-in-Exclude-clause-exclude
returns-in-Exclude-clause-exclude g c = λ is. (refl, refl)

pub returns-in-Include-clause-exclude : goal.returns-in-Include-clause-exclude
returns-in-Include-clause-exclude g c = λ is. not_so (rw c.in-Include.is at is)

pub returns-in-Range-clause-exclude : goal.returns-in-Range-clause-exclude
returns-in-Range-clause-exclude g c = λ is. not_so (rw c.in-Range.is at is)

pub returns-in-Merge-clause-exclude : goal.returns-in-Merge-clause-exclude
returns-in-Merge-clause-exclude g c = λ is. not_so (rw c.in-Merge.is at is)

pub returns-in-IncludeOnlyParents-clause-exclude : goal.returns-in-IncludeOnlyParents-clause-exclude
returns-in-IncludeOnlyParents-clause-exclude g c = λ is. not_so (rw c.in-IncludeOnlyParents.is at is)

pub returns-in-ExcludeParents-clause-exclude : goal.returns-in-ExcludeParents-clause-exclude
returns-in-ExcludeParents-clause-exclude g c = λ is. not_so (rw c.in-ExcludeParents.is at is)

pub returns-in-Merge-clause-size : goal.returns-in-Merge-clause-size
returns-in-Merge-clause-size g c = rw c.in-Merge.is c.count_of_just_one.ensures.size

pub returns-in-Merge-clause-taken : goal.returns-in-Merge-clause-taken
returns-in-Merge-clause-taken g c = rw c.in-Merge.is c.count_of_just_one.ensures.taken

pub returns-in-IncludeOnlyParents-clause-size : goal.returns-in-IncludeOnlyParents-clause-size
returns-in-IncludeOnlyParents-clause-size g c = rw c.in-IncludeOnlyParents.is c.count_of_parents.ensures.size

pub returns-in-IncludeOnlyParents-clause-taken : goal.returns-in-IncludeOnlyParents-clause-taken
returns-in-IncludeOnlyParents-clause-taken g c = rw c.in-IncludeOnlyParents.is c.count_of_parents.ensures.taken

pub returns-in-ExcludeParents-clause-size : goal.returns-in-ExcludeParents-clause-size
returns-in-ExcludeParents-clause-size g c = rw c.in-ExcludeParents.is c.count_of_one.ensures.size

pub returns-in-ExcludeParents-clause-taken : goal.returns-in-ExcludeParents-clause-taken
returns-in-ExcludeParents-clause-taken g c = rw c.in-ExcludeParents.is c.count_of_one.ensures.taken

pub slice_bounds-count_beyond-end-in-Include : goal.slice_bounds-count_beyond-end-in-Include
slice_bounds-count_beyond-end-in-Include g c = refl

pub slice_bounds-count_beyond-end-in-Range : goal.slice_bounds-count_beyond-end-in-Range
slice_bounds-count_beyond-end-in-Range g c = refl

pub slice_bounds-count_beyond-end-in-Range-2 : goal.slice_bounds-count_beyond-end-in-Range-2
slice_bounds-count_beyond-end-in-Range-2 g c = refl

pub returns-in-Include-clause-after : goal.returns-in-Include-clause-after
returns-in-Include-clause-after g c = c.count_beyond.ensures.after

pub returns-in-Range-clause-after : goal.returns-in-Range-clause-after
returns-in-Range-clause-after g c = c.count_beyond-in-Range.ensures.after

pub returns-in-Merge-clause-after : goal.returns-in-Merge-clause-after
returns-in-Merge-clause-after g c = c.count_of_just_one.ensures.after

pub returns-in-IncludeOnlyParents-clause-after : goal.returns-in-IncludeOnlyParents-clause-after
returns-in-IncludeOnlyParents-clause-after g c = c.count_of_parents.ensures.after

pub returns-in-ExcludeParents-clause-after : goal.returns-in-ExcludeParents-clause-after
returns-in-ExcludeParents-clause-after g c = c.count_of_one.ensures.after
