-- What some commits reach is a merge base of itself and them.
use Rattle.std.proofs.Common.{subst, List, ◌∷◌, inl, inr}
use Rattle.gix_base.specs.declared.hash.ObjectId.{ObjectId}
use Rattle.gix_revwalk.specs.History.{History, IsAncestor, IsAncestorOfOne}
use Rattle.gix_revwalk.specs.History.IsAncestor.{itself}
use Rattle.gix_revwalk.proofs.Ancestors.{anc-trans, has_ancestor}
use Rattle.gix_revwalk.proofs.Members.{one_of-cons_cases, one_of-head}
use Rattle.gix_merge_base.specs.Bases.{IsCommon, IsMaximal}
use Rattle.gix_merge_base.specs.Premises.{IsAcyclicFrom}
use Rattle.gix_merge_base.proofs.Reached.{acyclic_within, same_both_ways}

module _ (h : History) (id : ObjectId) (by : List ObjectId) (acyclic : IsAcyclicFrom h by) (reach : IsAncestorOfOne h by id) where
  pub acyclic_with : IsAcyclicFrom h (id ∷ by)
  acyclic_with = acyclic_within h (id ∷ by) by (λ c r. elim (one_of-cons_cases id by r.0 r.1) as (λ _. IsAncestorOfOne h by c) [
    | inl is ↦ (reach.0, reach.1, anc-trans h reach.0 id c reach.2 (subst (λ z. IsAncestor h z c) is r.2))
    | inr m ↦ (r.0, m, r.2)
  ]) acyclic

  pub reached_is_base : IsMaximal h (IsCommon h id by) id
  reached_is_base = (
    (itself (has_ancestor h reach.0 id reach.2).0, reach),
    λ t common leads. same_both_ways h (id ∷ by) acyclic_with t id (id, one_of-head id by, common.0) leads common.0,
  )
