-- Below the best common ancestors lies all that is common.
use Rattle.std.proofs.Common.{◌≡◌, ℕ, zero, suc, true, false, refl, subst, List, [], ◌∷◌, ◌⊎◌, inl, inr, ◌<◌, ◌≤◌, ◌+◌, length, get_or, IsTrue, ◌↔◌, arith}
use Rattle.std.specs.List.{filter}
use Rattle.std.specs.Bool.{MatchBool}
use Rattle.std.proofs.lemmas.List.{take_all}
use Rattle.gix_base.specs.declared.hash.ObjectId.{ObjectId}
use Rattle.gix_revwalk.specs.History.{History, entry_at, is_one_of, parents_in, IsAncestor, IsAncestorOfOne}
use Rattle.gix_merge_base.specs.Premises.{IsAcyclicFrom}
use Rattle.gix_merge_base.specs.Bases.{IsCommon, IsMaximal, IsBase}
use Rattle.gix_revwalk.specs.Walks.{all_visited}
use Rattle.gix_revwalk.proofs.Members.{one_of-single, one_of-head}
use Rattle.gix_revwalk.proofs.Walk.{Walked, walk_starts, walk_goes, walk_bounded, walk_ends}
use Rattle.gix_merge_base.proofs.Maximal.{common_goes_down, common_has, common_ones}
use Rattle.gix_merge_base.proofs.Above.{base_above}
use Rattle.gix_revwalk.proofs.Ancestors.{anc-trans}

-- the ancestors of some ids make a list
unfoldable pub Listed : (h : History) (starts : List ObjectId) → Type 0
Listed h starts = (xs : List ObjectId) × ((c : ObjectId) → IsTrue (is_one_of xs c) ↔ IsAncestorOfOne h starts c)

pub le_cases : (a b : ℕ) → (a < b) ⊎ (b ≤ a)
le_cases a zero = inr (omega arith)
le_cases zero (suc b) = inl (omega arith)
le_cases (suc a) (suc b) = elim (le_cases a b) as (λ _. (suc a < suc b) ⊎ (suc b ≤ suc a)) [ inl l ↦ inl (omega arith) | inr r ↦ inr (omega arith) ]

followed : (h : History) (starts : List ObjectId) (d : ObjectId) (n : ℕ) (seen : List ObjectId) (i : ℕ) → Walked h starts seen i → length h ≤ n + i → Listed h starts
unfolding Listed
followed h starts d zero seen i w room = (seen, walk_ends h starts seen i w (take_all i seen (omega (arith, walk_bounded h starts seen i w, room))))
followed h starts d (suc n) seen i w room =
    elim (le_cases i (length seen)) as (λ _. (xs : List ObjectId) × ((c : ObjectId) → IsTrue (is_one_of xs c) ↔ IsAncestorOfOne h starts c)) [
      | inl below ↦ followed h starts d n (all_visited h seen (parents_in (entry_at h (get_or seen i d)))) (i + 1) (walk_goes h starts seen i d w below) (omega (arith, room))
      | inr done ↦ (seen, walk_ends h starts seen i w (take_all i seen done))
    ]

pub listed : (h : History) (starts : List ObjectId) (d : ObjectId) → Listed h starts
listed h starts d = followed h starts d (length h) (all_visited h [] starts) 0 (walk_starts h starts) (omega arith)

-- each common ancestor lies below a best one, whatever the lists
pub best_above : (h : History) (f : ObjectId) (os : List ObjectId) → IsAcyclicFrom h (f ∷ os) → (c : ObjectId) → IsCommon h f os c → (m : ObjectId) × IsMaximal h (IsCommon h f os) m × IsAncestor h m c
unfolding Listed
best_above h f os acyclic c s =
    let ours = listed h (f ∷ []) f in
    let theirs = listed h os f in
    base_above h (f ∷ os) (IsCommon h f os) (filter (is_one_of theirs.0) ours.0) acyclic (common_goes_down h f os) (common_has h f os) (λ x s. (f, one_of-head f os, s.0)) (common_ones h f os ours.0 theirs.0 ours.1 theirs.1) c s

-- below the bases of b and o lies what is below both
pub bases_cover : (h : History) (b o : ObjectId) → IsAcyclicFrom h (b ∷ o ∷ []) → (c : ObjectId) → ((x : ObjectId) × IsBase h b (o ∷ []) x × IsAncestor h x c) ↔ (IsAncestor h b c × IsAncestor h o c)
bases_cover h b o acyclic c =
    elim (is_one_of (o ∷ []) b) as (λ t. is_one_of (o ∷ []) b ≡ t → ((x : ObjectId) × MatchBool t (x ≡ b) (IsMaximal h (IsCommon h b (o ∷ [])) x) × IsAncestor h x c) ↔ (IsAncestor h b c × IsAncestor h o c)) [
      | true ↦ λ same.
          let is : b ≡ o = one_of-single o b same in (
            (λ r. let a : IsAncestor h b c = subst (λ z. IsAncestor h z c) r.1 r.2 in (a, subst (λ z. IsAncestor h z c) is a)),
            (λ r. (b, refl, r.0)),
          )
      | false ↦ λ other. (
        (λ r. let s = r.1.0 in (anc-trans h b r.0 c s.0 r.2, anc-trans h o r.0 c (subst (λ z. IsAncestor h z r.0) (one_of-single o s.1.0 s.1.1) s.1.2) r.2)),
        (λ r. let m = best_above h b (o ∷ []) acyclic c (r.0, (o, one_of-head o [], r.1)) in (m.0, m.1, m.2)),
      )
    ] refl
