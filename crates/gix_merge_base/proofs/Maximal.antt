-- The common ancestors that are a parent of no common one are the maximal ones.
use Rattle.std.proofs.Common.{◌≡◌, false, refl, sym, subst, List, [], ◌∷◌, inl, inr, IsTrue, ◌↔◌, not}
use Rattle.std.proofs.lemmas.Bool.{not_from_false, false_from_ne_true}
use Rattle.std.specs.List.{filter}
use Rattle.gix_base.specs.declared.hash.ObjectId.{ObjectId}
use Rattle.gix_revwalk.specs.History.{History, entry_at, is_one_of, Has, IsEdge, parents_in, IsAncestor, IsAncestorOfOne}
use Rattle.gix_merge_base.specs.Premises.{IsAcyclicFrom}
use Rattle.gix_merge_base.specs.Bases.{IsCommon, IsMaximal, AreBases, CoverBases, is_trivial}
use Rattle.gix_revwalk.specs.History.IsAncestor.{itself, further}
use Rattle.gix_revwalk.proofs.Ancestors.{anc-edge, has_ancestor}
use Rattle.gix_revwalk.specs.Walks.{parents_of_all}
use Rattle.gix_revwalk.proofs.Members.{not_both, one_of-left, one_of-right, one_of-cases, one_of-single, one_of-head, one_of-tail, one_of-cons_cases, one_of-filter, one_of-filtered}

pub parent_of_one : (h : History) (xs : List ObjectId) (p c : ObjectId) → IsTrue (is_one_of xs p) → IsTrue (is_one_of (parents_in (entry_at h p)) c) → IsTrue (is_one_of (parents_of_all h xs) c)
parent_of_one h [] p c m k = cc
parent_of_one h (x ∷ xs) p c m k =
    elim (one_of-cons_cases x xs p m) as (λ _. IsTrue (is_one_of (parents_of_all h (x ∷ xs)) c)) [
      | inl e ↦ one_of-left (parents_in (entry_at h x)) (parents_of_all h xs) c (subst (λ z. IsTrue (is_one_of (parents_in (entry_at h z)) c)) e k)
      | inr r ↦ one_of-right (parents_in (entry_at h x)) (parents_of_all h xs) c (parent_of_one h xs p c r k)
    ]

pub one_with_parent : (h : History) (xs : List ObjectId) (c : ObjectId) → IsTrue (is_one_of (parents_of_all h xs) c) → (p : ObjectId) × IsTrue (is_one_of xs p) × IsTrue (is_one_of (parents_in (entry_at h p)) c)
one_with_parent h [] c m = cc
one_with_parent h (x ∷ xs) c m =
    elim (one_of-cases (parents_in (entry_at h x)) (parents_of_all h xs) c m) as (λ _. (p : ObjectId) × IsTrue (is_one_of (x ∷ xs) p) × IsTrue (is_one_of (parents_in (entry_at h p)) c)) [
      | inl k ↦ (x, one_of-head x xs, k)
      | inr k ↦ let r = one_with_parent h xs c k in (r.0, one_of-tail x xs r.0 r.1, r.2)
    ]

-- a set of commits that goes on along edges, as the ancestors of something do
abbrev pub GoesDown : History → (ObjectId → Type 0) → Type 0
GoesDown h S = (a b : ObjectId) → S a → IsEdge h a b → S b

down : (h : History) (S : ObjectId → Type 0) → GoesDown h S → (a b : ObjectId) → S a → IsAncestor h a b → S b
down h S go a b s (itself has) = s
down h S go a b s (further b' c p e) = go b' b (down h S go a b' s p) e

-- xs has the members of S, each of which the history has
pub maximal_ones : (h : History) (ids : List ObjectId) (S : ObjectId → Type 0) (xs : List ObjectId) → IsAcyclicFrom h ids → GoesDown h S → ((c : ObjectId) → S c → Has h c) → ((c : ObjectId) → S c → IsAncestorOfOne h ids c)
    → ((c : ObjectId) → IsTrue (is_one_of xs c) ↔ S c)
    → (c : ObjectId) → IsTrue (is_one_of (filter (λ x. not (is_one_of (parents_of_all h xs) x)) xs) c) ↔ IsMaximal h S c
maximal_ones h ids S xs acyclic go has reached is c = (
  (λ m. let kept = one_of-filter (λ x. not (is_one_of (parents_of_all h xs) x)) xs c m in
      ((is c).0 kept.0, λ t s a. top t c s a (λ p k. not_both _ kept.1 (parent_of_one h xs p c ((is p).1 k.0) k.1)))),
  (λ m. one_of-filtered (λ x. not (is_one_of (parents_of_all h xs) x)) xs c ((is c).1 m.0)
      (not_from_false _ (false_from_ne_true _ (λ k. let p = one_with_parent h xs c k in
      let sp : S p.0 = (is p.0).0 p.1 in
      let edge : IsEdge h p.0 c = (p.2, has c m.0) in
      acyclic p.0 c (reached p.0 sp) edge (subst (λ z. IsAncestor h c z) (sym (m.1 p.0 sp (anc-edge h p.0 c (has p.0 sp) edge))) (itself (has c m.0))))))),
)
  where
    top : (t c : ObjectId) → S t → IsAncestor h t c → ((p : ObjectId) → S p × IsTrue (is_one_of (parents_in (entry_at h p)) c) → ⊥) → t ≡ c
    top t c s (itself e) none = refl
    top t c s (further b c' p e) none = absurd (none b (down h S go t b s p, e.0))

pub common_goes_down : (h : History) (f : ObjectId) (os : List ObjectId) → GoesDown h (IsCommon h f os)
common_goes_down h f os a b s e = (further a b s.0 e, (s.1.0, s.1.1, further a b s.1.2 e))

pub common_has : (h : History) (f : ObjectId) (os : List ObjectId) (c : ObjectId) → IsCommon h f os c → Has h c
common_has h f os c s = (has_ancestor h f c s.0).0

-- what is in both lists is common
pub common_ones : (h : History) (f : ObjectId) (os xs ys : List ObjectId) → ((c : ObjectId) → IsTrue (is_one_of xs c) ↔ IsAncestorOfOne h (f ∷ []) c) → ((c : ObjectId) → IsTrue (is_one_of ys c) ↔ IsAncestorOfOne h os c)
    → (c : ObjectId) → IsTrue (is_one_of (filter (is_one_of ys) xs) c) ↔ IsCommon h f os c
common_ones h f os xs ys first others c = (
  (λ m. let kept = one_of-filter (is_one_of ys) xs c m in
      let a = (first c).0 kept.0 in
      (subst (λ z. IsAncestor h z c) (one_of-single f a.0 a.1) a.2, (others c).0 kept.1)),
  (λ m. one_of-filtered (is_one_of ys) xs c ((first c).1 (f, one_of-head f [], m.0)) ((others c).1 m.1)),
)

-- exact bases cover the bases
pub covers : (h : History) (f : ObjectId) (os ids : List ObjectId) → is_trivial f os ≡ false → AreBases h f os ids → CoverBases h f os ids
covers h f os ids plain are =
    let looked = rw plain at are in
    record { every = λ c m. (looked c).1 m; common = λ c m. ((looked c).0 m).0 }
