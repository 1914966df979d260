-- The reduction may end when one id is left, whatever is queued and whatever the generations: the one that is left is maximal.
use Rattle.std.proofs.Common.{◌≡◌, ◌||◌, ◌↔◌, not, ℕ, zero, suc, true, false, refl, ap, sym, subst, ◌∙◌, List, [], ◌∷◌, ◌++◌, inl, inr, IsTrue, ◌+◌, ◌≤◌, length, arith}
use Rattle.std.specs.List.{IsDistinct, filter}
use Rattle.std.proofs.lemmas.List.{length_push}
use Rattle.std.proofs.lemmas.Map.Keys.{IsDistinct-push}
use Rattle.std.proofs.lemmas.Map.Made.{length-le_from_is_member}
use Rattle.gix_base.specs.declared.hash.ObjectId.{ObjectId}
use Rattle.gix_revwalk.specs.History.{History, Has, IsAncestor, is_one_of, same_id}
use Rattle.gix_merge_base.specs.Premises.{IsAcyclicFrom, GenerationsNeverRiseFrom}
use Rattle.gix_revwalk.specs.History.IsAncestor.{itself}
use Rattle.gix_merge_base.specs.Reducing.{IsIndependent, firsts}
use Rattle.gix_merge_base.specs.ReduceSteps.{Reducing, Reduced}
use Rattle.gix_revwalk.proofs.Ids.{same_id-true, same_id-laws}
use Rattle.gix_revwalk.proofs.Members.{one_of-left, one_of-cases, one_of-single, one_of-head}
use Rattle.gix_revwalk.proofs.Ancestors.{anc-trans, anc-edge}
use Rattle.gix_merge_base.proofs.Painting.{last, start}
use Rattle.gix_merge_base.proofs.Reached.{reach_among, acyclic_within, never_within}
use Rattle.gix_merge_base.proofs.Reduction.{has_parents, left_is_max, left_over, max_is_left}
use Rattle.gix_merge_base.specs.Marks.{MarkSet}

module _ (h : History) (ids : List ObjectId) (m : ObjectId → MarkSet) (q : List ObjectId) (acyclic : IsAcyclicFrom h ids) (at : Reducing h ids m q) (c : ObjectId)
    (unique : (r : ObjectId) → IsTrue (is_one_of ids r) → (m r).stale ≡ false → r ≡ c) where
  -- different ids, each below t
  record Up (path : List ObjectId) (t : ObjectId) : Type 0 where
    once : IsDistinct same_id path
    member : (x : ObjectId) → IsTrue (is_one_of path x) → IsTrue (is_one_of ids x)
    leads : (x : ObjectId) → IsTrue (is_one_of path x) → IsAncestor h t x
    has_c : IsTrue (is_one_of path c)

  above : (path : List ObjectId) (t : ObjectId) → Up path t → IsTrue (m t).stale → (r : ObjectId) × Up (path ++ r ∷ []) r × IsTrue (m r).stale
  above path t up stale =
      let s = at.sound t stale in
      let r = s.0 in
      let has_r = has_parents h r s.2 s.3 in
      let to_t : IsAncestor h r t = anc-trans h r s.2 t (anc-edge h r s.2 has_r s.3) s.4 in
      let new : is_one_of path r ≡ false = elim (is_one_of path r) as (λ b. is_one_of path r ≡ b → b ≡ false) [
        | false ↦ λ e. refl
        | true ↦ λ e. absurd (acyclic r s.2 (r, s.1, itself has_r) s.3 (anc-trans h s.2 t r s.4 (up.leads r e)))
      ] refl in
      let met : IsTrue (m r).stale = elim (m r).stale as (λ b. (m r).stale ≡ b → IsTrue b) [
        | true ↦ λ e. refl
        | false ↦ λ e. let is = unique r s.1 e in let there : IsTrue (is_one_of path r) = subst (λ z. IsTrue (is_one_of path z)) (sym is) up.has_c in cc
      ] refl in (
        r,
        record {
          once = IsDistinct-push same_id-laws path r up.once new;
          member = λ x k. elim (one_of-cases path (r ∷ []) x k) as (λ _. IsTrue (is_one_of ids x)) [
            | inl a ↦ up.member x a
            | inr b ↦ subst (λ z. IsTrue (is_one_of ids z)) (sym (one_of-single r x b)) s.1
          ];
          leads = λ x k. elim (one_of-cases path (r ∷ []) x k) as (λ _. IsAncestor h r x) [
            | inl a ↦ anc-trans h r t x to_t (up.leads x a)
            | inr b ↦ subst (λ z. IsAncestor h r z) (sym (one_of-single r x b)) (itself has_r)
          ];
          has_c = one_of-left path (r ∷ []) c up.has_c;
        },
        met,
      )

  climb : (n : ℕ) (path : List ObjectId) (t : ObjectId) → Up path t → IsTrue (m t).stale → length ids ≤ n + length path → ⊥
  climb zero path t up stale room =
      let r = above path t up stale in
      let b = length-le_from_is_member same_id-laws (path ++ r.0 ∷ []) ids r.1.once r.1.member in
      omega (arith, b, length_push path r.0, room)
  climb (suc n) path t up stale room =
      let r = above path t up stale in
      climb n (path ++ r.0 ∷ []) r.0 r.1 r.2 (omega (arith, length_push path r.0, room))

  nothing : IsDistinct same_id []
  unfolding IsDistinct
  nothing = tt

  pub alone_is_best : IsTrue (is_one_of ids c) → IsIndependent h ids c
  alone_is_best c_in = (
    c_in,
    λ t t_in leads. elim (m t).stale as (λ b. (m t).stale ≡ b → t ≡ c) [
      | false ↦ λ e. unique t t_in e
      | true ↦ λ e. elim (same_id t c) as (λ b. same_id t c ≡ b → t ≡ c) [
        | true ↦ λ d. same_id-true t c d
        | false ↦ λ d.
            let has_c : Has h c = last h t c leads in
            let has_t : Has h t = start h t c leads in
            let start_path : Up ((c ∷ []) ++ t ∷ []) t = record {
              once = IsDistinct-push same_id-laws (c ∷ []) t (IsDistinct-push same_id-laws [] c nothing refl) (ap (λ z. z || false) d);
              member = λ x k. elim (one_of-cases (c ∷ []) (t ∷ []) x k) as (λ _. IsTrue (is_one_of ids x)) [
                | inl a ↦ subst (λ z. IsTrue (is_one_of ids z)) (sym (one_of-single c x a)) c_in
                | inr b ↦ subst (λ z. IsTrue (is_one_of ids z)) (sym (one_of-single t x b)) t_in
              ];
              leads = λ x k. elim (one_of-cases (c ∷ []) (t ∷ []) x k) as (λ _. IsAncestor h t x) [
                | inl a ↦ subst (λ z. IsAncestor h t z) (sym (one_of-single c x a)) leads
                | inr b ↦ subst (λ z. IsAncestor h t z) (sym (one_of-single t x b)) (itself has_t)
              ];
              has_c = one_of-left (c ∷ []) (t ∷ []) c (one_of-head c []);
            } in
            absurd (climb (length ids) ((c ∷ []) ++ t ∷ []) t start_path e (omega arith))
      ] refl
    ] refl,
  )

-- the ids that the history has, where the walk has ended
module _ (h : History) (ids ns : List ObjectId) (m : ObjectId → MarkSet) (acyclic : IsAcyclicFrom h ids) (reduced : Reduced h ns m)
    (inside : (c : ObjectId) → IsTrue (is_one_of ns c) → IsTrue (is_one_of ids c)) (every : (c : ObjectId) → IsTrue (is_one_of ids c) → Has h c → IsTrue (is_one_of ns c)) where
  known_acyclic : IsAcyclicFrom h ns
  known_acyclic = acyclic_within h ns ids (reach_among h ns ids inside) acyclic

  known_left : GenerationsNeverRiseFrom h ids → Reduced h ns m → (c : ObjectId) → IsTrue (is_one_of ns c) → (m c).stale ≡ false → IsIndependent h ns c
  known_left never (inl at) c c_in out = left_is_max h ns m at (never_within h ns ids (reach_among h ns ids inside) never) c c_in out
  known_left never (inr s) c c_in out = alone_is_best h ns m s.0 known_acyclic s.1 c (λ a a_in met. s.2 a c a_in met c_in out) c_in

  known_sound : Reduced h ns m → (c : ObjectId) → IsTrue (m c).stale → Has h c
  known_sound (inl at) c k = let s = at.sound c k in last h s.2 c s.4
  known_sound (inr s) c k = let r = s.1.sound c k in last h r.2 c r.4

  known_unmet : Reduced h ns m → (c : ObjectId) → IsIndependent h ns c → (m c).stale ≡ false
  known_unmet (inl at) c max = max_is_left h ns m [] known_acyclic at c max
  known_unmet (inr s) c max = max_is_left h ns m s.0 known_acyclic s.1 c max

  -- none of the independent ones was met
  pub reduced_keeps : (c : ObjectId) → IsIndependent h ids c → IsTrue (is_one_of (filter (λ x. not (m x).stale) (firsts ids)) c)
  reduced_keeps c max = (left_over m ids c).1 (
    max.0,
    elim (m c).stale as (λ b. (m c).stale ≡ b → b ≡ false) [
      | false ↦ λ e. refl
      | true ↦ λ e. sym e ∙ known_unmet reduced c (every c max.0 (known_sound reduced c e), λ t t_in leads. max.1 t (inside t t_in) leads)
    ] refl,
  )

  -- what was not met is independent
  pub reduced_exactly : GenerationsNeverRiseFrom h ids → (c : ObjectId) → IsTrue (is_one_of (filter (λ x. not (m x).stale) (firsts ids)) c) ↔ IsIndependent h ids c
  reduced_exactly never c = (
    λ k. let r = (left_over m ids c).0 k in (
      r.0,
      λ t t_in leads. (known_left never reduced c (every c r.0 (last h t c leads)) r.1).1 t (every t t_in (start h t c leads)) leads,
    ),
    reduced_keeps c,
  )
