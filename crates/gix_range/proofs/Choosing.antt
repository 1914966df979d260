-- What is kept of candidates is what is beyond.
use Rattle.std.proofs.Common.{◌≡◌, ℕ, ◌<◌, ◌+◌, take, get_or, length, sym, subst, arith, List, [], ◌∷◌, ◌++◌, inl, inr, IsTrue}
use Rattle.std.proofs.lemmas.Map.Made.{length-le_from_is_member}
use Rattle.gix_base.specs.declared.hash.ObjectId.{ObjectId}
use Rattle.gix_revwalk.specs.History.{History, Has, IsAncestorOfOne, is_one_of, IsBeyond}
use Rattle.gix_revwalk.specs.Sizes.{AtLeast, AtMost, Lists}
use Rattle.gix_revwalk.specs.Walks.{all_added}
use Rattle.gix_revwalk.proofs.Ancestors.{has_ancestor}
use Rattle.gix_revwalk.proofs.Ids.{same_id-laws}
use Rattle.gix_revwalk.proofs.Members.{one_of-left, one_of-right, one_of-cases, take_next}
use Rattle.gix_merge_base.specs.Premises.{IsAcyclicFrom}
use Rattle.gix_merge_base.specs.Sides.{CoversSide}
use Rattle.gix_range.specs.Ranges.{Covers, Keeps}
use Rattle.gix_range.proofs.Gathering.{all_added_cases, all_added_old, all_added_new}

module _ (h : History) (inc ex cands kept : List ObjectId) (are : CoversSide h inc ex cands) (at : Keeps h cands ex kept) where
  reached_has : (xs : List ObjectId) (c : ObjectId) → IsAncestorOfOne h xs c → Has h c
  reached_has xs c r = (has_ancestor h r.0 c r.2).0

  pub kept_covers : Covers h inc ex kept
  kept_covers = record {
    once = at.once;
    every = λ c b. at.every c (are.every c b.0 b.1) (reached_has inc c b.0) b.1;
    from = λ c k. are.from c (at.among c k);
  }

  pub kept_lists : IsAcyclicFrom h ex → Lists kept (IsBeyond h ex inc)
  kept_lists acyclic = (
    at.once,
    λ c. (
      λ k. (
        are.from c (at.among c k),
        at.exact (λ d i. reached_has inc d (are.from d i)) acyclic c k,
      ),
      λ b. kept_covers.every c b,
    ),
  )

-- how many were kept
module _ (h : History) (inc ex kept : List ObjectId) (n : ℕ) (size : length kept ≡ n) (at : Covers h inc ex kept) where
  pub kept_most : AtMost n (IsBeyond h ex inc)
  kept_most zs once each = let le = length-le_from_is_member same_id-laws zs kept once (λ c m. at.every c (each c m)) in omega (arith, size)

  pub kept_least : AtLeast n (IsAncestorOfOne h inc)
  kept_least = (kept, at.once, at.from, omega (arith, size))

-- all that ids reach, if nothing is excluded
pub covers_none : (h : History) → CoversSide h [] [] []
covers_none h = record { every = λ c r out. let k = r.1 in cc; from = λ c k. cc }

pub covers_more : (h : History) (ids all firsts new : List ObjectId) (id : ObjectId) → new ≡ all_added all firsts
    → CoversSide h (id ∷ []) [] firsts → CoversSide h ids [] all → CoversSide h (ids ++ id ∷ []) [] new
covers_more h ids all firsts new id is one at = record {
  every = λ c r out. subst (λ l. IsTrue (is_one_of l c)) (sym is) (elim (one_of-cases ids (id ∷ []) r.0 r.1) as (λ _. IsTrue (is_one_of (all_added all firsts) c)) [
    | inl a ↦ all_added_old all firsts c (at.every c (r.0, a, r.2) out)
    | inr b ↦ all_added_new all firsts c (one.every c (r.0, b, r.2) out)
  ]);
  from = λ c k. elim (all_added_cases all firsts c (subst (λ l. IsTrue (is_one_of l c)) is k)) as (λ _. IsAncestorOfOne h (ids ++ id ∷ []) c) [
    | inl a ↦ let r = at.from c a in (r.0, one_of-left ids (id ∷ []) r.0 r.1, r.2)
    | inr b ↦ let r = one.from c b in (r.0, one_of-right ids (id ∷ []) r.0 r.1, r.2)
  ];
}

pub covers_next : (h : History) (ids all new : List ObjectId) (i : ℕ) (d : ObjectId) → i < length ids → CoversSide h (take i ids) [] all
    → ((xs : List ObjectId) → CoversSide h xs [] all → CoversSide h (xs ++ get_or ids i d ∷ []) [] new) → CoversSide h (take (i + 1) ids) [] new
covers_next h ids all new i d lt at step = subst (λ l. CoversSide h l [] new) (sym (take_next ids i d lt)) (step (take i ids) at)
