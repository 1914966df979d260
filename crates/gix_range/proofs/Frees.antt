-- Which of some ids no other one reaches, one after another.
use Rattle.std.proofs.Common.{arith, ◌==◌, ◌∙◌, ◌≡◌, ℕ, ◌<◌, ◌+◌, Bool, take, length, get_or, true, false, cond, refl, sym, subst, ap, List, [], ◌∷◌, ◌++◌, inl, inr, IsTrue, ◌↔◌, not}
use Rattle.std.specs.List.{filter}
use Rattle.std.proofs.lemmas.Bool.Decides.{Decides-eqb}
use Rattle.gix_base.specs.declared.hash.ObjectId.{ObjectId}
use Rattle.gix_revwalk.specs.History.{History, IsAncestorOfOne, is_one_of, same_id}
use Rattle.gix_revwalk.proofs.Ids.{same_id-true, same_id-equal}
use Rattle.gix_revwalk.proofs.Members.{one_of-left, one_of-right, one_of-cases, one_of-single, one_of-filter, one_of-filtered, take_next}
use Rattle.gix_merge_base.specs.Premises.{IsAcyclicFrom}
use Rattle.gix_merge_base.specs.Reducing.{IsIndependent}
use Rattle.gix_merge_base.proofs.Reached.{reach_among, acyclic_within}
use Rattle.gix_range.specs.Independent.{Frees}

abbrev other_than : ObjectId → List ObjectId → List ObjectId
other_than x ids = filter (λ y. not (same_id x y)) ids

not_same : (x y : ObjectId) → not (same_id x y) ≡ true → x ≡ y → ⊥
not_same x y n e = let s = same_id-equal x y e in cc

-- x is independent exactly if the others do not reach it
module _ (h : History) (ids : List ObjectId) (x : ObjectId) (x_in : IsTrue (is_one_of ids x)) where
  fewer : IsAcyclicFrom h ids → IsAcyclicFrom h (other_than x ids)
  fewer = acyclic_within h (other_than x ids) ids (reach_among h (other_than x ids) ids (λ i k. (one_of-filter (λ y. not (same_id x y)) ids i k).0))

  pub free_if : (¬ IsAncestorOfOne h (other_than x ids) x) → IsIndependent h ids x
  free_if out = (
    x_in,
    λ t t_in leads. elim (same_id x t) as (λ b. same_id x t ≡ b → t ≡ x) [
      | true ↦ λ e. sym (same_id-true x t e)
      | false ↦ λ e. absurd (out (t, one_of-filtered (λ y. not (same_id x y)) ids t t_in (ap not e), leads))
    ] refl,
  )

  pub reached_if : IsAncestorOfOne h (other_than x ids) x → ¬ IsIndependent h ids x
  reached_if r free =
      let m = one_of-filter (λ y. not (same_id x y)) ids r.0 r.1 in
      not_same x r.0 m.1 (sym (free.1 r.0 m.0 r.2))

  -- of a walk's answer
  pub free_of : (b : Bool) → (IsTrue b ↔ IsAncestorOfOne h (other_than x ids) x) → IsTrue (not b) ↔ IsIndependent h ids x
  free_of true is = (λ k. cc, λ free. absurd (reached_if (is.0 refl) free))
  free_of false is = (λ k. free_if (λ r. let t = is.1 r in cc), λ free. refl)

  -- without others
  pub free_alone : (others : List ObjectId) → others ≡ other_than x ids → (b : Bool) → b ≡ (length others == 0) → b ≡ true → IsTrue true ↔ IsIndependent h ids x
  free_alone [] e b is t = (λ k. free_if (λ r. let m = subst (λ l. IsTrue (is_one_of l r.0)) (sym e) r.1 in cc), λ free. refl)
  free_alone (y ∷ ys) e b is t =
      let z : length (y ∷ ys) ≡ 0 = (Decides-eqb (length (y ∷ ys)) 0).0 (sym is ∙ t) in
      absurd (omega arith)

  -- by a walk's answer over the others
  pub free_by : (others : List ObjectId) → others ≡ other_than x ids → IsAcyclicFrom h ids → (b : Bool) → (IsAcyclicFrom h others → IsTrue b ↔ IsAncestorOfOne h others x) → IsTrue (not b) ↔ IsIndependent h ids x
  free_by others e acyclic b is = free_of b (subst (λ l. IsTrue b ↔ IsAncestorOfOne h l x) e (is (subst (IsAcyclicFrom h) (sym e) (fewer acyclic))))

pub frees_none : (h : History) (ids : List ObjectId) → Frees h ids [] []
frees_none h ids = record { exact = λ acyclic c. (λ k. cc, λ k. k.0) }

pub frees_more : (h : History) (ids xs kept kept' : List ObjectId) (x : ObjectId) (b : Bool) → (IsAcyclicFrom h ids → IsTrue b ↔ IsIndependent h ids x)
    → kept' ≡ cond b (kept ++ x ∷ []) kept → Frees h ids xs kept → Frees h ids (xs ++ x ∷ []) kept'
frees_more h ids xs kept kept' x b test is at = subst (Frees h ids (xs ++ x ∷ [])) (sym is) (record { exact = λ acyclic c. step b (test acyclic) (at.exact acyclic) c })
  where
    step : (b : Bool) → (IsTrue b ↔ IsIndependent h ids x) → ((c : ObjectId) → IsTrue (is_one_of kept c) ↔ (IsTrue (is_one_of xs c) × IsIndependent h ids c))
        → (c : ObjectId) → IsTrue (is_one_of (cond b (kept ++ x ∷ []) kept) c) ↔ (IsTrue (is_one_of (xs ++ x ∷ []) c) × IsIndependent h ids c)
    step true t old c = (
      λ k. elim (one_of-cases kept (x ∷ []) c k) as (λ _. IsTrue (is_one_of (xs ++ x ∷ []) c) × IsIndependent h ids c) [
        | inl a ↦ let r = (old c).0 a in (one_of-left xs (x ∷ []) c r.0, r.1)
        | inr s ↦ let e = sym (one_of-single x c s) in (one_of-right xs (x ∷ []) c s, subst (IsIndependent h ids) e (t.0 refl))
      ],
      λ k. elim (one_of-cases xs (x ∷ []) c k.0) as (λ _. IsTrue (is_one_of (kept ++ x ∷ []) c)) [
        | inl a ↦ one_of-left kept (x ∷ []) c ((old c).1 (a, k.1))
        | inr s ↦ one_of-right kept (x ∷ []) c s
      ],
    )
    step false t old c = (
      λ k. let r = (old c).0 k in (one_of-left xs (x ∷ []) c r.0, r.1),
      λ k. elim (one_of-cases xs (x ∷ []) c k.0) as (λ _. IsTrue (is_one_of kept c)) [
        | inl a ↦ (old c).1 (a, k.1)
        | inr s ↦ let n = t.1 (subst (IsIndependent h ids) (one_of-single x c s) k.1) in cc
      ],
    )

pub frees_next : (h : History) (ids kept kept' : List ObjectId) (i : ℕ) (d : ObjectId) → i < length ids → Frees h ids (take i ids) kept
    → ((ys : List ObjectId) → Frees h ids ys kept → Frees h ids (ys ++ get_or ids i d ∷ []) kept') → Frees h ids (take (i + 1) ids) kept'
frees_next h ids kept kept' i d lt at step = subst (λ l. Frees h ids l kept') (sym (take_next ids i d lt)) (step (take i ids) at)

-- all of them
pub frees_all : (h : History) (ids kept : List ObjectId) → Frees h ids ids kept → IsAcyclicFrom h ids → (c : ObjectId) → IsTrue (is_one_of kept c) ↔ IsIndependent h ids c
frees_all h ids kept at acyclic c = (λ k. ((at.exact acyclic c).0 k).1, λ free. (at.exact acyclic c).1 (free.0, free))
