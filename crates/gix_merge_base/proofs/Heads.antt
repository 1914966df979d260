-- How an octopus goes from head to head.
use Rattle.std.proofs.Common.{◌≡◌, ℕ, true, false, refl, sym, subst, ◌∙◌, List, [], ◌∷◌, ◌++◌, inl, inr, IsTrue, ◌↔◌, ◌<◌, ◌≤◌, ◌+◌, arith, take, length, get_or, Option, Some}
use Rattle.std.specs.Bool.{MatchBool}
use Rattle.std.specs.Option.{MatchOption}
use Rattle.std.specs.Ordering.{is_gt}
use Rattle.std.specs.Prelude.{slice_get}
use Rattle.std.specs.Cmp.{tied_itself}
use Rattle.std.specs.declared.cmp.Ordering.TheVariants.{Less, Equal}
use Rattle.std.specs.List.{list_all, IsDistinct}
use Rattle.std.proofs.lemmas.List.{length_push}
use Rattle.std.proofs.lemmas.Map.Keys.{IsDistinct-push}
use Rattle.std.proofs.lemmas.Map.Made.{length-le_from_is_member}
use Rattle.gix_base.specs.declared.hash.ObjectId.{ObjectId}
use Rattle.gix_revwalk.specs.History.{History, same_id, is_one_of, Has, IsAncestor, IsAncestorOfOne, IsAncestorOfAll}
use Rattle.gix_merge_base.specs.Premises.{IsAcyclicFrom, GenerationsNeverRiseFrom}
use Rattle.gix_revwalk.specs.History.IsAncestor.{itself}
use Rattle.gix_merge_base.specs.Bases.{IsCommon, IsMaximal, CoverBases}
use Rattle.gix_merge_base.specs.Octopus.{IsOctopusBase, IsCommonToAll, AreOctopusBases}
use Rattle.gix_merge_base.specs.Keys.{choice, IsInOrder}
use Rattle.gix_merge_base.specs.Reducing.{firsts}
use Rattle.gix_merge_base.specs.OctopusSteps.{AreApart, IsStep}
use Rattle.gix_revwalk.proofs.Ids.{same_id-laws}
use Rattle.gix_revwalk.proofs.Members.{one_of-left, one_of-right, one_of-cases, one_of-cons_cases, one_of-single, one_of-head, one_of-tail, one_of-at, take_next}
use Rattle.gix_revwalk.proofs.Ancestors.{anc-trans, has_ancestor}
use Rattle.gix_merge_base.proofs.Choice.{choice_total}
use Rattle.gix_merge_base.proofs.Octopus.{best_above}
use Rattle.gix_merge_base.proofs.Orders.{head_first}
use Rattle.gix_merge_base.proofs.Reached.{ReachNoMore, acyclic_within, never_within, same_both_ways}
use Rattle.gix_merge_base.proofs.Reduction.{firsts_has, firsts_once}

-- no bases: nothing is common
pub step_none : (h : History) (bs : List ObjectId) (o : ObjectId) → length bs ≡ 0 → IsStep h bs o []
step_none h [] o none = record {
  common = λ c m. cc;
  below = λ c s. let k = s.1.1 in cc;
  apart = λ never c d mc md a. cc;
}
step_none h (b ∷ bs) o none = cc

-- the head is one of the bases
pub step_alone : (h : History) (bs : List ObjectId) (o : ObjectId) → Has h o → IsTrue (is_one_of bs o) → IsStep h bs o (o ∷ [])
step_alone h bs o has there = record {
  common = λ c m. subst (IsCommon h o bs) (sym (one_of-single o c m)) (itself has, (o, there, itself has));
  below = λ c s. (o, one_of-head o [], s.0);
  apart = λ never c d mc md a. one_of-single o c mc ∙ sym (one_of-single o d md);
}

-- else they are looked up
pub step_best : (h : History) (bs : List ObjectId) (o : ObjectId) (ys : List ObjectId) → IsAcyclicFrom h (o ∷ bs) → CoverBases h o bs ys
    → (GenerationsNeverRiseFrom h (o ∷ bs) → (c : ObjectId) → IsTrue (is_one_of ys c) ↔ IsMaximal h (IsCommon h o bs) c) → IsStep h bs o ys
step_best h bs o ys acyclic covers exact = record {
  common = covers.common;
  below = λ c s. let m = best_above h o bs acyclic c s in (m.0, covers.every m.0 m.1, m.2);
  apart = λ never c d mc md a. ((exact never d).0 md).1 c (covers.common c mc) a;
}

-- us stand for what is common to f and all of os
pub record StandFor (h : History) (f : ObjectId) (os us : List ObjectId) : Type 0 where
  pub below : (c : ObjectId) → IsAncestorOfOne h us c ↔ IsAncestorOfAll h (f ∷ os) c
  pub has : (c : ObjectId) → IsTrue (is_one_of us c) → Has h c
  pub apart : GenerationsNeverRiseFrom h (f ∷ os) → AreApart h us

pub stand_first : (h : History) (f : ObjectId) → Has h f → StandFor h f [] (f ∷ [])
stand_first h f has = record {
  below = λ c. (
    (λ a i m. subst (λ z. IsAncestor h z c) (one_of-single f a.0 a.1 ∙ sym (one_of-single f i m)) a.2),
    (λ all. (f, one_of-head f [], all f (one_of-head f []))),
  );
  has = λ c m. subst (Has h) (sym (one_of-single f c m)) has;
  apart = λ never c d mc md a. one_of-single f c mc ∙ sym (one_of-single f d md);
}

module _ (h : History) (f : ObjectId) (os : List ObjectId) (o : ObjectId) (us ys : List ObjectId) (stand : StandFor h f os us) (step : IsStep h us o ys) where
  more_below : (c : ObjectId) → IsAncestorOfOne h ys c → IsAncestorOfAll h (f ∷ (os ++ o ∷ [])) c
  more_below c a i m =
      let s = step.common a.0 a.1 in
      elim (one_of-cases (f ∷ os) (o ∷ []) i m) as (λ _. IsAncestor h i c) [
        | inl k ↦ (stand.below c).0 (s.1.0, s.1.1, anc-trans h s.1.0 a.0 c s.1.2 a.2) i k
        | inr k ↦ subst (λ z. IsAncestor h z c) (sym (one_of-single o i k)) (anc-trans h o a.0 c s.0 a.2)
      ]

  below_more : (c : ObjectId) → IsAncestorOfAll h (f ∷ (os ++ o ∷ [])) c → IsAncestorOfOne h ys c
  below_more c all =
      step.below c (all o (one_of-right (f ∷ os) (o ∷ []) o (one_of-head o [])), (stand.below c).1 (λ i m. all i (one_of-left (f ∷ os) (o ∷ []) i m)))

  reach_no_more : ReachNoMore h (o ∷ us) (f ∷ (os ++ o ∷ []))
  reach_no_more c a = elim (one_of-cons_cases o us a.0 a.1) as (λ _. IsAncestorOfOne h (f ∷ (os ++ o ∷ [])) c) [
    | inl is ↦ (o, one_of-right (f ∷ os) (o ∷ []) o (one_of-head o []), subst (λ z. IsAncestor h z c) is a.2)
    | inr k ↦ (f, one_of-head f (os ++ o ∷ []), (stand.below c).0 (a.0, k, a.2) f (one_of-head f os))
  ]

  stand_more : StandFor h f (os ++ o ∷ []) ys
  stand_more = record {
    below = λ c. (more_below c, below_more c);
    has = λ c m. (has_ancestor h o c (step.common c m).0).0;
    apart = λ never. step.apart (never_within h (o ∷ us) (f ∷ (os ++ o ∷ [])) reach_no_more never);
  }

pub stand_next : (h : History) (f : ObjectId) (os : List ObjectId) (i : ℕ) (d : ObjectId) (us ys : List ObjectId) → i < length os → StandFor h f (take i os) us
    → IsStep h us (get_or os i d) ys → StandFor h f (take (i + 1) os) ys
stand_next h f os i d us ys lt stand step = rw (take_next os i d lt) (stand_more h f (take i os) (get_or os i d) us ys stand step)

-- what stands for some heads and the next head reach no more than all heads
pub stand_acyclic : (h : History) (f : ObjectId) (os : List ObjectId) (i : ℕ) (d : ObjectId) (us : List ObjectId) → i < length os → StandFor h f (take i os) us
    → IsAcyclicFrom h (f ∷ os) → IsAcyclicFrom h (get_or os i d ∷ us)
stand_acyclic h f os i d us lt stand acyclic = acyclic_within h (get_or os i d ∷ us) (f ∷ os) within acyclic
  where
    within : ReachNoMore h (get_or os i d ∷ us) (f ∷ os)
    within c a = elim (one_of-cons_cases (get_or os i d) us a.0 a.1) as (λ _. IsAncestorOfOne h (f ∷ os) c) [
      | inl is ↦ (get_or os i d, one_of-tail f os (get_or os i d) (one_of-at os i d lt), subst (λ z. IsAncestor h z c) is a.2)
      | inr k ↦ (f, one_of-head f os, (stand.below c).0 (a.0, k, a.2) f (one_of-head f (take i os)))
    ]

module _ (h : History) (f : ObjectId) (os us : List ObjectId) (acyclic : IsAcyclicFrom h (f ∷ os)) (stand : StandFor h f os us) where
  each_common : (c : ObjectId) → IsTrue (is_one_of us c) → IsAncestorOfAll h (f ∷ os) c
  each_common c m = (stand.below c).0 (c, m, itself (stand.has c m))

  -- after the last head
  pub stand_last : AreOctopusBases h f os us
  stand_last = record {
    each = each_common;
    maximal = λ never c. (
      (λ m. (
        each_common c m,
        λ t s a. let r = (stand.below t).1 s in
            let is : r.0 ≡ c = stand.apart never r.0 c r.1 m (anc-trans h r.0 t c r.2 a) in
            same_both_ways h (f ∷ os) acyclic t c (f, one_of-head f os, s f (one_of-head f os)) a (subst (λ z. IsAncestor h z t) is r.2),
      )),
      (λ s. let r = (stand.below c).1 s.0 in
          subst (λ z. IsTrue (is_one_of us z)) (s.1 r.0 (each_common r.0 r.1) r.2) r.1),
    );
    cover = λ c s. (stand.below c).1 s;
  }

-- the first of these in order is the octopus base
module _ (h : History) (f : ObjectId) (os : List ObjectId) where
  -- what is said where not all are f
  abbrev IsChosenOne : Option ObjectId → Type 0
  IsChosenOne r =
      MatchOption r ((c : ObjectId) → ¬ IsAncestorOfAll h (f ∷ os) c)
      (λ x. IsMaximal h (IsAncestorOfAll h (f ∷ os)) x × ((y : ObjectId) → IsMaximal h (IsAncestorOfAll h (f ∷ os)) y → IsTrue (is_gt (choice h x y)) → ⊥))

  none_common : AreOctopusBases h f os [] → (c : ObjectId) → ¬ IsAncestorOfAll h (f ∷ os) c
  none_common are c all = let a = are.cover c all in let none : IsTrue (is_one_of [] a.0) = a.1 in cc

  none_before : (x : ObjectId) (xs : List ObjectId) → IsInOrder h (x ∷ xs) → (y : ObjectId) → IsTrue (is_one_of (x ∷ xs) y) → IsTrue (is_gt (choice h x y)) → ⊥
  none_before x xs order y k later = elim (one_of-cons_cases x xs y k) as (λ _. ⊥) [
    | inl is ↦ let tie = tied_itself (choice_total h) x in let e : IsTrue (is_gt (choice h x x)) = subst (λ z. IsTrue (is_gt (choice h x z))) is later in let g : IsTrue (is_gt Equal) = subst (λ r. IsTrue (is_gt r)) tie e in cc
    | inr m ↦ let less = head_first h x xs order y m in let g : IsTrue (is_gt Less) = subst (λ r. IsTrue (is_gt r)) less later in cc
  ]

  first_is_chosen : (ids : List ObjectId) (r : Option ObjectId) → GenerationsNeverRiseFrom h (f ∷ os) → AreOctopusBases h f os ids → IsInOrder h ids → r ≡ slice_get ids 0 → IsChosenOne r
  first_is_chosen [] r never are order is = subst IsChosenOne (sym is) (none_common are)
  first_is_chosen (x ∷ xs) r never are order is = subst IsChosenOne (sym is) ((are.maximal never x).0 (one_of-head x xs), λ y m. none_before x xs order y ((are.maximal never y).1 m))

  pub first_is_octopus : (ids : List ObjectId) (r : Option ObjectId) → list_all (same_id f) os ≡ false → GenerationsNeverRiseFrom h (f ∷ os) → AreOctopusBases h f os ids → IsInOrder h ids → r ≡ slice_get ids 0 → IsOctopusBase h f os r
  first_is_octopus ids r differ never are order is = subst (λ b. MatchBool b (r ≡ Some f) (IsChosenOne r)) (sym differ) (first_is_chosen ids r never are order is)

  pub first_is_common : (ids : List ObjectId) (r : Option ObjectId) → AreOctopusBases h f os ids → r ≡ slice_get ids 0 → IsCommonToAll h f os r
  first_is_common [] r are is = subst (IsCommonToAll h f os) (sym is) (none_common are)
  first_is_common (x ∷ xs) r are is = subst (IsCommonToAll h f os) (sym is) (are.each x (one_of-head x xs))

pub some_head : (f : ObjectId) (os : List ObjectId) → 0 < length (firsts (f ∷ os))
some_head f os = one (firsts (f ∷ os)) ((firsts_has (f ∷ os) f).1 (one_of-head f os))
  where
    one : (l : List ObjectId) → IsTrue (is_one_of l f) → 0 < length l
    one [] m = cc
    one (x ∷ l) m = omega arith

-- of the heads, each once, found are those that the history has
module _ (h : History) (f : ObjectId) (os found : List ObjectId) (once : IsDistinct same_id found)
    (known : (c : ObjectId) → IsTrue (is_one_of found c) ↔ (IsTrue (is_one_of (firsts (f ∷ os)) c) × Has h c)) where
  -- it lacks one
  pub nothing_common : length found < length (firsts (f ∷ os)) → AreOctopusBases h f os []
  nothing_common few = record {
    each = λ c m. cc;
    cover = λ c all. absurd (none c all);
    maximal = λ never c. (λ m. cc, λ s. absurd (none c s.0));
  }
    where
      none : (c : ObjectId) → ¬ IsAncestorOfAll h (f ∷ os) c
      none c all =
          let within = length-le_from_is_member same_id-laws (firsts (f ∷ os)) found (firsts_once (f ∷ os))
          (λ i m. (known i).1 (m, (has_ancestor h i c (all i ((firsts_has (f ∷ os) i).0 m))).1)) in
          omega (arith, within, few)

  all_found : length (firsts (f ∷ os)) ≤ length found → (i : ObjectId) → IsTrue (is_one_of (firsts (f ∷ os)) i) → IsTrue (is_one_of found i)
  all_found enough i m = elim (is_one_of found i) as (λ b. is_one_of found i ≡ b → b ≡ true) [
    | true ↦ λ e. refl
    | false ↦ λ e.
        let more = length-le_from_is_member same_id-laws (found ++ i ∷ []) (firsts (f ∷ os)) (IsDistinct-push same_id-laws found i once e)
        (λ x k. elim (one_of-cases found (i ∷ []) x k) as (λ _. IsTrue (is_one_of (firsts (f ∷ os)) x)) [
          | inl y ↦ ((known x).0 y).0
          | inr y ↦ subst (λ z. IsTrue (is_one_of (firsts (f ∷ os)) z)) (sym (one_of-single i x y)) m
        ]) in
        absurd (omega (arith, more, length_push found i, enough))
  ] refl

  -- it has them all: with the first of them in front they are the same ids
  module _ (enough : length (firsts (f ∷ os)) ≤ length found) (d : ObjectId) where
    in_found : (i : ObjectId) → IsTrue (is_one_of (get_or found 0 d ∷ found) i) → IsTrue (is_one_of found i)
    in_found i m = elim (one_of-cons_cases (get_or found 0 d) found i m) as (λ _. IsTrue (is_one_of found i)) [
      | inl is ↦ let some = some_head f os in
          let lt : 0 < length found = omega arith in
          subst (λ z. IsTrue (is_one_of found z)) (sym is) (one_of-at found 0 d lt)
      | inr k ↦ k
    ]

    pub found_has : (i : ObjectId) → IsTrue (is_one_of (get_or found 0 d ∷ found) i) → Has h i
    found_has i m = ((known i).0 (in_found i m)).1

    pub same_heads : (i : ObjectId) → IsTrue (is_one_of (get_or found 0 d ∷ found) i) ↔ IsTrue (is_one_of (f ∷ os) i)
    same_heads i = (
      λ m. (firsts_has (f ∷ os) i).0 ((known i).0 (in_found i m)).0,
      λ m. one_of-tail (get_or found 0 d) found i (all_found enough i ((firsts_has (f ∷ os) i).1 m)),
    )
