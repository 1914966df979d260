-- Each of finitely many commits that reach no cycle lies below a maximal one of them.
use Rattle.std.proofs.Common.{◌≡◌, ℕ, zero, suc, true, false, refl, sym, subst, ◌∙◌, List, [], ◌∷◌, ◌++◌, ◌⊎◌, inl, inr, IsTrue, not, ◌≤◌, ◌+◌, length, arith}
use Rattle.std.specs.List.{IsDistinct}
use Rattle.std.proofs.lemmas.List.{length_push}
use Rattle.std.proofs.lemmas.Map.Keys.{IsDistinct-push}
use Rattle.std.proofs.lemmas.Map.Made.{length-le_from_is_member}
use Rattle.gix_base.specs.declared.hash.ObjectId.{ObjectId}
use Rattle.gix_revwalk.specs.History.{History, same_id, is_one_of, Has, IsAncestor}
use Rattle.gix_merge_base.specs.Premises.{IsAcyclicFrom}
use Rattle.gix_revwalk.specs.History.IsAncestor.{itself}
use Rattle.gix_merge_base.specs.Bases.{IsMaximal}
use Rattle.gix_revwalk.specs.Sizes.{is_empty}
use Rattle.gix_merge_base.specs.HistoryLaws.{Among}
use Rattle.gix_revwalk.proofs.Ids.{same_id-true, same_id-equal, same_id-laws}
use Rattle.gix_revwalk.proofs.Members.{nothing, one_of-cases, one_of-single, one_of-head, one_of-tail, one_of-cons_cases}
use Rattle.gix_merge_base.proofs.Octopus.{Listed, listed}
use Rattle.gix_merge_base.proofs.Reached.{same_both_ways}
use Rattle.gix_revwalk.proofs.Ancestors.{anc-trans}

-- whether t is among the descendants of c, as the list of its ancestors tells
is_above : (h : History) (t c : ObjectId) → IsAncestor h t c ⊎ (IsAncestor h t c → ⊥)
unfolding Listed
is_above h t c =
    let below = listed h (t ∷ []) t in
    elim (is_one_of below.0 c) as (λ b. is_one_of below.0 c ≡ b → IsAncestor h t c ⊎ (IsAncestor h t c → ⊥)) [
      | true ↦ λ yes. let a = (below.1 c).0 yes in inl (subst (λ z. IsAncestor h z c) (one_of-single t a.0 a.1) a.2)
      | false ↦ λ out. inr (λ a. let m = (below.1 c).1 (t, one_of-head t [], a) in cc)
    ] refl

-- t is another one of ids, and c is its ancestor
record IsBetter (h : History) (ids : List ObjectId) (c t : ObjectId) : Type 0 where
  own : Among ids t
  above : IsAncestor h t c
  other : same_id t c ≡ false

-- there is a better one, or none
better_or_none : (h : History) (ids : List ObjectId) (c : ObjectId) → ((t : ObjectId) × IsBetter h ids c t) ⊎ ((t : ObjectId) → Among ids t → IsAncestor h t c → t ≡ c)
better_or_none h [] c = inr (λ t m a. cc)
better_or_none h (x ∷ xs) c =
    elim (better_or_none h xs c) as (λ _. ((t : ObjectId) × IsBetter h (x ∷ xs) c t) ⊎ ((t : ObjectId) → Among (x ∷ xs) t → IsAncestor h t c → t ≡ c)) [
      | inl r ↦ inl (r.0, record { own = one_of-tail x xs r.0 r.1.own; above = r.1.above; other = r.1.other })
      | inr none ↦ elim (same_id x c) as (λ b. same_id x c ≡ b → ((t : ObjectId) × IsBetter h (x ∷ xs) c t) ⊎ ((t : ObjectId) → Among (x ∷ xs) t → IsAncestor h t c → t ≡ c)) [
        | true ↦ λ same. inr (λ t m a. elim (one_of-cons_cases x xs t m) as (λ _. t ≡ c) [ inl e ↦ e ∙ same_id-true x c same | inr k ↦ none t k a ])
        | false ↦ λ other. elim (is_above h x c) as (λ _. ((t : ObjectId) × IsBetter h (x ∷ xs) c t) ⊎ ((t : ObjectId) → Among (x ∷ xs) t → IsAncestor h t c → t ≡ c)) [
          | inl a ↦ inl (x, record { own = one_of-head x xs; above = a; other = other })
          | inr not_above ↦ inr (λ t m a. elim (one_of-cons_cases x xs t m) as (λ _. t ≡ c) [ inl e ↦ absurd (not_above (subst (λ z. IsAncestor h z c) e a)) | inr k ↦ none t k a ])
        ]
      ] refl
    ]

module _ (h : History) (ids : List ObjectId) (acyclic : IsAcyclicFrom h ids) (has : (c : ObjectId) → Among ids c → Has h c) where
  -- the ids of path are different ones of ids, and c leads to each
  record Climbed (path : List ObjectId) (c : ObjectId) : Type 0 where
    once : IsDistinct same_id path
    member : (x : ObjectId) → IsTrue (is_one_of path x) → Among ids x
    leads : (x : ObjectId) → IsTrue (is_one_of path x) → IsAncestor h c x
    own : Among ids c

  -- one step up, with a longer path
  step : (path : List ObjectId) (c : ObjectId) → Climbed path c → IsMaximal h (Among ids) c ⊎ ((t : ObjectId) × Climbed (path ++ t ∷ []) t × IsAncestor h t c)
  step path c at =
      elim (better_or_none h ids c) as (λ _. IsMaximal h (Among ids) c ⊎ ((t : ObjectId) × Climbed (path ++ t ∷ []) t × IsAncestor h t c)) [
        | inr none ↦ inl (at.own, none)
        | inl r ↦
            let t = r.0 in
            let up : IsAncestor h t c = r.1.above in
            let new : is_one_of path t ≡ false =
            elim (is_one_of path t) as (λ b. is_one_of path t ≡ b → b ≡ false) [
              | true ↦ λ m. sym (same_id-equal t c (same_both_ways h ids acyclic t c (t, r.1.own, itself (has t r.1.own)) up (at.leads t m))) ∙ r.1.other
              | false ↦ λ m. refl
            ] refl in
            inr (
              t,
              record {
                once = IsDistinct-push same_id-laws path t at.once new;
                member = λ x m. elim (one_of-cases path (t ∷ []) x m) as (λ _. Among ids x) [
                  | inl k ↦ at.member x k
                  | inr k ↦ subst (λ z. Among ids z) (sym (one_of-single t x k)) r.1.own
                ];
                leads = λ x m. elim (one_of-cases path (t ∷ []) x m) as (λ _. IsAncestor h t x) [
                  | inl k ↦ anc-trans h t c x up (at.leads x k)
                  | inr k ↦ subst (λ z. IsAncestor h t z) (sym (one_of-single t x k)) (itself (has t r.1.own))
                ];
                own = r.1.own;
              },
              up,
            )
      ]

  bound : (path : List ObjectId) (c : ObjectId) → Climbed path c → length path ≤ length ids
  bound path c at = length-le_from_is_member same_id-laws path ids at.once at.member

  climb : (n : ℕ) (path : List ObjectId) (c : ObjectId) → Climbed path c → length ids ≤ n + length path → (m : ObjectId) × IsMaximal h (Among ids) m × IsAncestor h m c
  climb zero path c at room =
      elim (step path c at) as (λ _. (m : ObjectId) × IsMaximal h (Among ids) m × IsAncestor h m c) [
        | inl top ↦ (c, top, itself (has c at.own))
        | inr r ↦ absurd (omega (arith, bound _ _ r.1, length_push path r.0, room))
      ]
  climb (suc n) path c at room =
      elim (step path c at) as (λ _. (m : ObjectId) × IsMaximal h (Among ids) m × IsAncestor h m c) [
        | inl top ↦ (c, top, itself (has c at.own))
        | inr r ↦ let s = climb n (path ++ r.0 ∷ []) r.0 r.1 (omega (arith, length_push path r.0, room)) in (s.0, s.1, anc-trans h s.0 r.0 c s.2 r.2)
      ]

  pub maximal_above : (c : ObjectId) → Among ids c → (m : ObjectId) × IsMaximal h (Among ids) m × IsAncestor h m c
  maximal_above c own = climb (length ids) [] c (record { once = nothing; member = λ x m. cc; leads = λ x m. cc; own = own }) (omega arith)

pub maximal_some : (h : History) (ids : List ObjectId) → IsAcyclicFrom h ids → ((c : ObjectId) → Among ids c → Has h c) → IsTrue (not (is_empty ids)) → (m : ObjectId) × IsMaximal h (Among ids) m
maximal_some h [] acyclic has some = cc
maximal_some h (x ∷ xs) acyclic has some = let r = maximal_above h (x ∷ xs) acyclic has x (one_of-head x xs) in (r.0, r.1)
