-- The octopus base depends on the set of ids alone.
use Rattle.std.proofs.Common.{◌≡◌, Bool, true, false, refl, ap, sym, ◌∙◌, List, [], ◌∷◌, ◌&&◌, IsTrue, ◌↔◌, Option, Some, None, inl, inr}
use Rattle.std.specs.Bool.{MatchBool}
use Rattle.std.specs.Option.{MatchOption}
use Rattle.std.specs.List.{list_all}
use Rattle.std.specs.Ordering.{is_gt}
use Rattle.gix_base.specs.declared.hash.ObjectId.{ObjectId}
use Rattle.gix_revwalk.specs.History.{History, same_id, is_one_of, IsAncestorOfAll}
use Rattle.gix_merge_base.specs.Bases.{IsMaximal}
use Rattle.gix_merge_base.specs.Octopus.{IsOctopusBase, AreOctopusBases}
use Rattle.gix_merge_base.specs.Keys.{choice}
use Rattle.gix_revwalk.proofs.Ids.{same_id-true, same_id-equal}
use Rattle.gix_revwalk.proofs.Members.{one_of-head, one_of-tail, one_of-cons_cases}
use Rattle.gix_merge_base.proofs.Choice.{choice-unique}
use Rattle.gix_merge_base.proofs.Reached.{reach_among, never_within}

and_both : (a b : Bool) → (a && b) ≡ true → (a ≡ true) × (b ≡ true)
and_both true b e = (refl, e)
and_both false b e = cc

-- all are f
each_is : (f : ObjectId) (os : List ObjectId) → list_all (same_id f) os ≡ true → (i : ObjectId) → IsTrue (is_one_of os i) → i ≡ f
each_is f [] all i m = cc
each_is f (o ∷ os) all i m =
    let both = and_both (same_id f o) (list_all (same_id f) os) all in
    elim (one_of-cons_cases o os i m) as (λ _. i ≡ f) [ inl e ↦ e ∙ sym (same_id-true f o both.0) | inr k ↦ each_is f os both.1 i k ]

each_are : (f : ObjectId) (os : List ObjectId) → ((i : ObjectId) → IsTrue (is_one_of os i) → i ≡ f) → list_all (same_id f) os ≡ true
each_are f [] each = refl
each_are f (o ∷ os) each =
    ap (λ b. b && list_all (same_id f) os) (same_id-equal f o (sym (each o (one_of-head o os)))) ∙ each_are f os (λ i m. each i (one_of-tail o os i m))

module _ (h : History) (f g : ObjectId) (os ps : List ObjectId) (same : (i : ObjectId) → IsTrue (is_one_of (f ∷ os) i) ↔ IsTrue (is_one_of (g ∷ ps) i)) where
  first_same : list_all (same_id f) os ≡ true → g ≡ f
  first_same all = elim (one_of-cons_cases f os g ((same g).1 (one_of-head g ps))) as (λ _. g ≡ f) [ inl e ↦ e | inr k ↦ each_is f os all g k ]

  all_same : list_all (same_id f) os ≡ true → list_all (same_id g) ps ≡ true
  all_same all =
      each_are g ps (λ i m. elim (one_of-cons_cases f os i ((same i).1 (one_of-tail g ps i m))) as (λ _. i ≡ g) [
        | inl e ↦ e ∙ sym (first_same all)
        | inr k ↦ each_is f os all i k ∙ sym (first_same all)
      ])

  over : (c : ObjectId) → IsAncestorOfAll h (f ∷ os) c → IsAncestorOfAll h (g ∷ ps) c
  over c all i m = all i ((same i).1 m)

  back : (c : ObjectId) → IsAncestorOfAll h (g ∷ ps) c → IsAncestorOfAll h (f ∷ os) c
  back c all i m = all i ((same i).0 m)

  maximal_over : (c : ObjectId) → IsMaximal h (IsAncestorOfAll h (f ∷ os)) c → IsMaximal h (IsAncestorOfAll h (g ∷ ps)) c
  maximal_over c m = (over c m.0, λ t s a. m.1 t (back t s) a)

  maximal_back : (c : ObjectId) → IsMaximal h (IsAncestorOfAll h (g ∷ ps)) c → IsMaximal h (IsAncestorOfAll h (f ∷ os)) c
  maximal_back c m = (back c m.0, λ t s a. m.1 t (over t s) a)

  pub bases_same : (ids : List ObjectId) → AreOctopusBases h f os ids → AreOctopusBases h g ps ids
  bases_same ids are = record {
    each = λ c m. over c (are.each c m);
    cover = λ c all. are.cover c (back c all);
    maximal = λ never c.
        let own = never_within h (f ∷ os) (g ∷ ps) (reach_among h (f ∷ os) (g ∷ ps) (λ i m. (same i).0 m)) never in
        (λ m. maximal_over c ((are.maximal own c).0 m), λ s. (are.maximal own c).1 (maximal_back c s));
  }

  -- what is said where not all are equal
  abbrev IsChosenOne : ObjectId → List ObjectId → Option ObjectId → Type 0
  IsChosenOne e es r =
      MatchOption r ((c : ObjectId) → ¬ IsAncestorOfAll h (e ∷ es) c)
      (λ x. IsMaximal h (IsAncestorOfAll h (e ∷ es)) x × ((y : ObjectId) → IsMaximal h (IsAncestorOfAll h (e ∷ es)) y → IsTrue (is_gt (choice h x y)) → ⊥))

  chosen_same : (r s : Option ObjectId) → IsChosenOne f os r → IsChosenOne g ps s → r ≡ s
  chosen_same None None p q = refl
  chosen_same None (Some y) p q = absurd (p y (back y q.0.0))
  chosen_same (Some x) None p q = absurd (q x (over x p.0.0))
  chosen_same (Some x) (Some y) p q = ap Some (choice-unique h x y (p.1 y (maximal_back y q.0)) (q.1 x (maximal_over x p.0)))

module _ (h : History) (f g : ObjectId) (os ps : List ObjectId) (same : (i : ObjectId) → IsTrue (is_one_of (f ∷ os) i) ↔ IsTrue (is_one_of (g ∷ ps) i)) where
  turned : (i : ObjectId) → IsTrue (is_one_of (g ∷ ps) i) ↔ IsTrue (is_one_of (f ∷ os) i)
  turned i = ((same i).1, (same i).0)

  by_cases : (a b : Bool) (r s : Option ObjectId) → list_all (same_id f) os ≡ a → list_all (same_id g) ps ≡ b → MatchBool a (r ≡ Some f) (IsChosenOne h f g os ps same f os r)
      → MatchBool b (s ≡ Some g) (IsChosenOne h f g os ps same g ps s) → r ≡ s
  by_cases true true r s d e p q = p ∙ ap Some (sym (first_same h f g os ps same d)) ∙ sym q
  by_cases true false r s d e p q = let k = all_same h f g os ps same d in cc
  by_cases false true r s d e p q = let k = all_same h g f ps os turned e in cc
  by_cases false false r s d e p q = chosen_same h f g os ps same r s p q

  pub same_base : (r s : Option ObjectId) → IsOctopusBase h f os r → IsOctopusBase h g ps s → r ≡ s
  same_base r s p q = by_cases (list_all (same_id f) os) (list_all (same_id g) ps) r s refl refl p q
