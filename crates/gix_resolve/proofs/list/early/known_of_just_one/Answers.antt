use Rattle.std.below.core.proofs.iter.Serving.{as_err}
use Rattle.std.proofs.Common.{◌≡◌, ◌+◌, [], ◌∷◌, refl, sym, subst}
use Rattle.gix_revwalk.specs.Sizes.{HasSize}
use Rattle.gix_revwalk.proofs.GraphAfters.{graph_as}
use Rattle.gix_merge_base.specs.Premises.{GenerationsNeverRiseFrom}
use Rattle.gix_spec.specs.declared.spec.Spec.TheVariants.{Merge}
use Rattle.gix_resolve.specs.ListMeaning.{IsMeant}
use Rattle.gix_resolve.proofs.ListMembers.{if-ok}
use Rattle.gix_resolve.proofs.ListCounts.{size-merge}
use Rattle.gix_resolve.proofs.list.early.known_of_just_one.Goals as goal

pub returns-clause-size : goal.returns-clause-size
returns-clause-size g c =
    let h = g.S.Find.history c.args.graph.now.source in
    let a = c.args.theirs in
    let b = c.args.ours in
    let never : GenerationsNeverRiseFrom h (a ∷ b ∷ []) = λ x y _ e. c.requires x y e in
    let counts = c.in_ok-of_theirs.ensures.counts in
    let both = size-merge h a b _ _ (counts.first never) (counts.second never refl) in
    if-ok c.sum.result (λ n. n ≡ c.in_ok-of_theirs.of_theirs + c.in_ok-of_theirs.of_ours) (HasSize (IsMeant h (Merge a b)))
    (λ n is. subst (HasSize (IsMeant h (Merge a b))) (sym is) both) c.sum.ensures.sum

pub returns-clause-after : goal.returns-clause-after
returns-clause-after g c = graph_as c.args.graph.now c.counted.new.graph _ c.sum.result (sym c.sum.ensures.fault) c.in_ok-of_theirs.ensures.after

pub returns-in_err-of_theirs-clause-size : goal.returns-in_err-of_theirs-clause-size
returns-in_err-of_theirs-clause-size g c = rw (as_err c.from_residual.ensures.0).1 tt
