use Rattle.gix_resolve.proofs.Answered.{not_so}
use Rattle.std.proofs.Common.{[], ◌∷◌}
use Rattle.gix_merge_base.specs.PaintQueue.{ids_at, AreIn}
use Rattle.gix_spec.specs.declared.spec.Spec.TheVariants.{Range, Merge}
use Rattle.gix_resolve.specs.ListMeaning.{IsMeant}
use Rattle.gix_resolve.specs.ListWalk.{AreJust}
use Rattle.gix_resolve.specs.ReachSides.{ListsFirst, ListsEither}
use Rattle.gix_resolve.proofs.ListMembers.{if-both, lists-range, lists-either}
use Rattle.gix_resolve.proofs.ListTaken.{only_swapped}
use Rattle.gix_resolve.proofs.list.early.known_members.Goals as goal

pub returns-in-Range-clause-meant : goal.returns-in-Range-clause-meant
returns-in-Range-clause-meant g c =
    let h = g.S.Find.history c.args.graph.now.source in
    let a = c.in-Range.from in
    let b = c.in-Range.to in
    let new = c.firsts.new.graph in
    rw c.in-Range.is (if-both c.firsts.result (λ numbers. AreIn new numbers.items) (λ numbers. ListsFirst h (b ∷ []) (a ∷ []) (ids_at new numbers.items)) (λ numbers. AreJust new numbers.items (IsMeant h (Range a b)))
    (λ numbers within listed. (within, lists-range h a b (ids_at new numbers.items) (listed.once, λ d. ((λ m. listed.exact (λ x y _ e. c.requires x y e) d m), (λ q. listed.every d q)))))
    c.firsts.ensures.inside c.firsts.ensures.listed)

pub returns-in-Merge-clause-meant : goal.returns-in-Merge-clause-meant
returns-in-Merge-clause-meant g c =
    let h = g.S.Find.history c.args.graph.now.source in
    let a = c.in-Merge.theirs in
    let b = c.in-Merge.ours in
    let new = c.eithers.new.graph in
    rw c.in-Merge.is (if-both c.eithers.result (λ numbers. AreIn new numbers.items) (λ numbers. ListsEither h (a ∷ []) (b ∷ []) (ids_at new numbers.items)) (λ numbers. AreJust new numbers.items (IsMeant h (Merge a b)))
    (λ numbers within listed. (within, lists-either h a b (ids_at new numbers.items) (listed.once, λ d. ((λ m. listed.exact (λ x y _ e. c.requires x y e) d m), (λ q. listed.every d q)))))
    c.eithers.ensures.inside c.eithers.ensures.listed)

pub returns-in-Range-clause-taken : goal.returns-in-Range-clause-taken
returns-in-Range-clause-taken g c = rw c.in-Range.is (only_swapped (g.S.Find.history c.args.graph.now.source) c.in-Range.from c.in-Range.to c.args.graph.now c.firsts.new.graph c.firsts.ensures.taken)

pub returns-in-Merge-clause-taken : goal.returns-in-Merge-clause-taken
returns-in-Merge-clause-taken g c = rw c.in-Merge.is c.eithers.ensures.taken

pub returns-in-Range-clause-exclude : goal.returns-in-Range-clause-exclude
returns-in-Range-clause-exclude g c = λ is. not_so (rw c.in-Range.is at is)

pub returns-in-Merge-clause-exclude : goal.returns-in-Merge-clause-exclude
returns-in-Merge-clause-exclude g c = λ is. not_so (rw c.in-Merge.is at is)

pub returns-in-Range-clause-after : goal.returns-in-Range-clause-after
returns-in-Range-clause-after g c = c.firsts.ensures.after

pub returns-in-Merge-clause-after : goal.returns-in-Merge-clause-after
returns-in-Merge-clause-after g c = c.eithers.ensures.after
