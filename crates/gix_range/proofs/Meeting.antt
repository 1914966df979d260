-- The best common ancestors of some commits, and then of one more.
use Rattle.std.proofs.Common.{subst, sym, List, ◌∷◌, ◌++◌, [], inl, inr, IsTrue, ◌↔◌}
use Rattle.gix_base.specs.declared.hash.ObjectId.{ObjectId}
use Rattle.gix_revwalk.specs.History.{History, is_one_of, IsAncestor, IsAncestorOfAll, IsAncestorOfOne}
use Rattle.gix_revwalk.proofs.Ancestors.{anc-trans}
use Rattle.gix_revwalk.proofs.Members.{one_of-cases, one_of-cons_cases, one_of-head, one_of-left, one_of-right, one_of-single}
use Rattle.gix_merge_base.specs.Bases.{IsCommon, IsMaximal}
use Rattle.gix_merge_base.specs.Premises.{IsAcyclicFrom}
use Rattle.gix_merge_base.proofs.Octopus.{best_above}
use Rattle.gix_merge_base.proofs.Reached.{acyclic_within}
use Rattle.gix_range.specs.Octopus.{Meets}

max_as : (h : History) (P Q : ObjectId → Type 0) → ((c : ObjectId) → P c ↔ Q c) → (c : ObjectId) → IsMaximal h P c → IsMaximal h Q c
max_as h P Q same c m = ((same c).0 m.0, λ t q leads. m.1 t ((same t).1 q) leads)

-- by the merge bases of o and os, if what o and one of os reach is what all of ids reach
module _ (h : History) (all ids os found : List ObjectId) (o : ObjectId) (o_in : IsTrue (is_one_of all o)) (acyclic : IsAcyclicFrom h (o ∷ os))
    (same : (c : ObjectId) → IsCommon h o os c ↔ IsAncestorOfAll h ids c) (is : (c : ObjectId) → IsTrue (is_one_of found c) ↔ IsMaximal h (IsCommon h o os) c) where
  meets_by : Meets h all ids found
  meets_by = record {
    exact = λ c. (
      (λ k. max_as h (IsCommon h o os) (IsAncestorOfAll h ids) same c ((is c).0 k)),
      (λ m. (is c).1 (max_as h (IsAncestorOfAll h ids) (IsCommon h o os) (λ x. ((same x).1, (same x).0)) c m)),
    );
    cover = λ c k. let m = best_above h o os acyclic c ((same c).1 k) in (m.0, (is m.0).1 m.1, m.2);
    within = λ c k. (o, o_in, ((is c).0 k).0.0);
  }

-- of one commit
pub meets_one : (h : History) (all found : List ObjectId) (f : ObjectId) → IsTrue (is_one_of all f) → IsAcyclicFrom h all
    → (IsAcyclicFrom h (f ∷ f ∷ []) → (c : ObjectId) → IsTrue (is_one_of found c) ↔ IsMaximal h (IsCommon h f (f ∷ [])) c) → Meets h all (f ∷ []) found
meets_one h all found f f_in acyclic is = meets_by h all (f ∷ []) (f ∷ []) found f f_in twice same (is twice)
  where
    own : (i : ObjectId) → IsTrue (is_one_of (f ∷ f ∷ []) i) → IsTrue (is_one_of all i)
    own i m = elim (one_of-cons_cases f (f ∷ []) i m) as (λ _. IsTrue (is_one_of all i)) [
      | inl e ↦ subst (λ z. IsTrue (is_one_of all z)) (sym e) f_in
      | inr k ↦ subst (λ z. IsTrue (is_one_of all z)) (sym (one_of-single f i k)) f_in
    ]

    twice : IsAcyclicFrom h (f ∷ f ∷ [])
    twice = acyclic_within h (f ∷ f ∷ []) all (λ c r. (r.0, own r.0 r.1, r.2)) acyclic

    same : (c : ObjectId) → IsCommon h f (f ∷ []) c ↔ IsAncestorOfAll h (f ∷ []) c
    same c = (
      (λ k i m. subst (λ z. IsAncestor h z c) (sym (one_of-single f i m)) k.0),
      (λ k. let a = k f (one_of-head f []) in (a, (f, one_of-head f [], a))),
    )

-- of one commit more
pub meets_more : (h : History) (all ids common found : List ObjectId) (o : ObjectId) → IsTrue (is_one_of all o) → IsAcyclicFrom h all → Meets h all ids common
    → (IsAcyclicFrom h (o ∷ common) → (c : ObjectId) → IsTrue (is_one_of found c) ↔ IsMaximal h (IsCommon h o common) c) → Meets h all (ids ++ o ∷ []) found
meets_more h all ids common found o o_in acyclic at is = meets_by h all (ids ++ o ∷ []) common found o o_in fewer same (is fewer)
  where
    fewer : IsAcyclicFrom h (o ∷ common)
    fewer = acyclic_within h (o ∷ common) all (λ c r. elim (one_of-cons_cases o common r.0 r.1) as (λ _. IsAncestorOfOne h all c) [
      | inl e ↦ (o, o_in, subst (λ z. IsAncestor h z c) e r.2)
      | inr k ↦ let w = at.within r.0 k in (w.0, w.1, anc-trans h w.0 r.0 c w.2 r.2)
    ]) acyclic

    same : (c : ObjectId) → IsCommon h o common c ↔ IsAncestorOfAll h (ids ++ o ∷ []) c
    same c = (
      (λ k i m. elim (one_of-cases ids (o ∷ []) i m) as (λ _. IsAncestor h i c) [
        | inl l ↦ let r = k.1 in anc-trans h i r.0 c (((at.exact r.0).0 r.1).0 i l) r.2
        | inr s ↦ subst (λ z. IsAncestor h z c) (sym (one_of-single o i s)) k.0
      ]),
      (λ k. (k o (one_of-right ids (o ∷ []) o (one_of-head o [])), at.cover c (λ i m. k i (one_of-left ids (o ∷ []) i m)))),
    )
