-- In an acyclic history each member of a set that goes down lies below a maximal one.
use Rattle.std.proofs.Common.{◌≡◌, ℕ, zero, suc, true, false, refl, ap, sym, subst, List, [], ◌∷◌, ◌++◌, ◌⊎◌, inl, inr, IsTrue, ◌↔◌, not, ◌≤◌, ◌+◌, length, arith}
use Rattle.std.specs.List.{filter, IsDistinct}
use Rattle.std.proofs.lemmas.List.{length_push}
use Rattle.std.proofs.lemmas.Map.Keys.{IsDistinct-push}
use Rattle.std.proofs.lemmas.Map.Made.{length-le_from_is_member}
use Rattle.gix_base.specs.declared.hash.ObjectId.{ObjectId}
use Rattle.gix_revwalk.specs.History.{History, same_id, is_one_of, Has, IsEdge, IsAncestor, IsAncestorOfOne}
use Rattle.gix_merge_base.specs.Premises.{IsAcyclicFrom}
use Rattle.gix_merge_base.specs.Bases.{IsMaximal}
use Rattle.gix_revwalk.specs.History.IsAncestor.{itself}
use Rattle.gix_revwalk.specs.Walks.{parents_of_all}
use Rattle.gix_revwalk.proofs.Ids.{same_id-laws}
use Rattle.gix_revwalk.proofs.Ancestors.{anc-trans, anc-edge}
use Rattle.gix_revwalk.proofs.Members.{nothing, one_of-cases, one_of-single, one_of-filtered}
use Rattle.gix_merge_base.proofs.Maximal.{one_with_parent, maximal_ones, GoesDown}

module _ (h : History) (ids xs : List ObjectId) (acyclic : IsAcyclicFrom h ids) (has : (c : ObjectId) → IsTrue (is_one_of xs c) → Has h c)
    (reached : (c : ObjectId) → IsTrue (is_one_of xs c) → IsAncestorOfOne h ids c) where
  -- c is one of those that are a parent of none
  abbrev pub IsTop : ObjectId → Type 0
  IsTop m = IsTrue (is_one_of (filter (λ x. not (is_one_of (parents_of_all h xs) x)) xs) m)

  -- the ids of path are different members of xs, and c leads to each
  record Path (path : List ObjectId) (c : ObjectId) : Type 0 where
    once : IsDistinct same_id path
    member : (x : ObjectId) → IsTrue (is_one_of path x) → IsTrue (is_one_of xs x)
    leads : (x : ObjectId) → IsTrue (is_one_of path x) → IsAncestor h c x
    in_xs : IsTrue (is_one_of xs c)

  -- one step up, with a longer path
  up : (path : List ObjectId) (c : ObjectId) → Path path c → IsTop c ⊎ ((p : ObjectId) × Path (path ++ p ∷ []) p × IsAncestor h p c)
  up path c at =
      elim (is_one_of (parents_of_all h xs) c) as (λ b. is_one_of (parents_of_all h xs) c ≡ b → IsTop c ⊎ ((p : ObjectId) × Path (path ++ p ∷ []) p × IsAncestor h p c)) [
        | false ↦ λ top. inl (one_of-filtered (λ x. not (is_one_of (parents_of_all h xs) x)) xs c at.in_xs (ap not top))
        | true ↦ λ below.
            let r = one_with_parent h xs c below in
            let p = r.0 in
            let edge : IsEdge h p c = (r.2, has c at.in_xs) in
            let step : IsAncestor h p c = anc-edge h p c (has p r.1) edge in
            let new : is_one_of path p ≡ false = elim (is_one_of path p) as (λ b. is_one_of path p ≡ b → b ≡ false) [ true ↦ λ m. absurd (acyclic p c (reached p r.1) edge (at.leads p m)) | false ↦ λ m. refl ] refl in
            inr (
              p,
              record {
                once = IsDistinct-push same_id-laws path p at.once new;
                member = λ x m. elim (one_of-cases path (p ∷ []) x m) as (λ _. IsTrue (is_one_of xs x)) [
                  | inl k ↦ at.member x k
                  | inr k ↦ subst (λ z. IsTrue (is_one_of xs z)) (sym (one_of-single p x k)) r.1
                ];
                leads = λ x m. elim (one_of-cases path (p ∷ []) x m) as (λ _. IsAncestor h p x) [
                  | inl k ↦ anc-trans h p c x step (at.leads x k)
                  | inr k ↦ subst (λ z. IsAncestor h p z) (sym (one_of-single p x k)) (itself (has p r.1))
                ];
                in_xs = r.1;
              },
              step,
            )
      ] refl

  bound : (path : List ObjectId) (c : ObjectId) → Path path c → length path ≤ length xs
  bound path c at = length-le_from_is_member same_id-laws path xs at.once at.member

  climb : (n : ℕ) (path : List ObjectId) (c : ObjectId) → Path path c → length xs ≤ n + length path → (m : ObjectId) × IsTop m × IsAncestor h m c
  climb zero path c at room =
      elim (up path c at) as (λ _. (m : ObjectId) × IsTop m × IsAncestor h m c) [
        | inl top ↦ (c, top, itself (has c at.in_xs))
        | inr r ↦ absurd (omega (arith, bound _ _ r.1, length_push path r.0, room))
      ]
  climb (suc n) path c at room =
      elim (up path c at) as (λ _. (m : ObjectId) × IsTop m × IsAncestor h m c) [
        | inl top ↦ (c, top, itself (has c at.in_xs))
        | inr r ↦ let s = climb n (path ++ r.0 ∷ []) r.0 r.1 (omega (arith, length_push path r.0, room)) in (s.0, s.1, anc-trans h s.0 r.0 c s.2 r.2)
      ]

  pub one_above : (c : ObjectId) → IsTrue (is_one_of xs c) → (m : ObjectId) × IsTop m × IsAncestor h m c
  one_above c in_xs = climb (length xs) [] c (record { once = nothing; member = λ x m. cc; leads = λ x m. cc; in_xs = in_xs }) (omega arith)

-- each common ancestor lies below a best one
pub base_above : (h : History) (ids : List ObjectId) (S : ObjectId → Type 0) (xs : List ObjectId) → IsAcyclicFrom h ids → GoesDown h S → ((c : ObjectId) → S c → Has h c) → ((c : ObjectId) → S c → IsAncestorOfOne h ids c) → ((c : ObjectId) → IsTrue (is_one_of xs c) ↔ S c)
    → (c : ObjectId) → S c → (m : ObjectId) × IsMaximal h S m × IsAncestor h m c
base_above h ids S xs acyclic go has reached is c s =
    let r = one_above h ids xs acyclic (λ x m. has x ((is x).0 m)) (λ x m. reached x ((is x).0 m)) c ((is c).1 s) in
    (r.0, (maximal_ones h ids S xs acyclic go has reached is r.0).0 r.1, r.2)
