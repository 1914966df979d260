-- `a^!` means what a reaches and its parents do not.
use Rattle.std.proofs.Common.{◌≡◌, [], inl, inr, ◌⊎◌, refl, sym, subst}
use Rattle.gix_base.specs.declared.hash.ObjectId.{ObjectId}
use Rattle.gix_revwalk.specs.History.{History, IsEdge, IsAncestor, IsAncestorOfOne, entry_at, parents_in}
use Rattle.gix_revwalk.specs.History.IsAncestor.{itself, further}
use Rattle.gix_revwalk.proofs.Members.{one_of-head}
use Rattle.gix_revwalk.proofs.Ancestors.{has_ancestor}
use Rattle.gix_spec.specs.declared.spec.Spec.TheVariants.{ExcludeParents}
use Rattle.gix_resolve.specs.ListMeaning.{IsMeant}
use Rattle.gix_resolve.specs.ListLaws.{AlonesAreWithoutParents}

-- a path is empty, or goes on from a parent
by_parent : (h : History) (a c : ObjectId) → IsAncestor h a c → (c ≡ a) ⊎ IsAncestorOfOne h (parents_in (entry_at h a)) c
by_parent h a c (itself has) = inl refl
by_parent h a c (further b c' path e) = elim (by_parent h a b path) as (λ _. (c' ≡ a) ⊎ IsAncestorOfOne h (parents_in (entry_at h a)) c') [
  | inl is ↦ inr (c', (subst (λ z. IsEdge h z c') is e).0, itself e.1)
  | inr k ↦ inr (k.0, k.1, further b c' k.2 e)
]

pub alones_without_parents : AlonesAreWithoutParents
alones_without_parents h a c acyclic = (to, from)
  where
    to : IsMeant h (ExcludeParents a) c → IsAncestor h a c × (¬ IsAncestorOfOne h (parents_in (entry_at h a)) c)
    to m = (
      subst (λ z. IsAncestor h a z) (sym m.1) (itself m.0),
      λ k. acyclic a k.0 (a, one_of-head a [], itself m.0) (k.1, (has_ancestor h k.0 c k.2).1) (subst (λ z. IsAncestor h k.0 z) m.1 k.2),
    )

    from : IsAncestor h a c × (¬ IsAncestorOfOne h (parents_in (entry_at h a)) c) → IsMeant h (ExcludeParents a) c
    from e = elim (by_parent h a c e.0) as (λ _. IsMeant h (ExcludeParents a) c) [
      | inl is ↦ ((has_ancestor h a c e.0).1, is)
      | inr k ↦ absurd (e.1 k)
    ]
