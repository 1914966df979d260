-- Kept candidates stay right as one more is looked at.
use Rattle.std.proofs.Common.{◌≡◌, ℕ, ◌<◌, ◌+◌, take, length, get_or, true, false, cond, refl, sym, subst, List, [], ◌∷◌, ◌++◌, ◌⊎◌, inl, inr, IsTrue}
use Rattle.std.specs.List.{IsDistinct}
use Rattle.std.proofs.lemmas.Map.Keys.{IsDistinct-push}
use Rattle.gix_base.specs.declared.hash.ObjectId.{ObjectId}
use Rattle.gix_revwalk.specs.History.{History, Has, IsAncestorOfOne, is_one_of, same_id}
use Rattle.gix_revwalk.specs.Walks.{added}
use Rattle.gix_merge_base.specs.Premises.{IsAcyclicFrom}
use Rattle.gix_revwalk.proofs.Ids.{same_id-laws}
use Rattle.gix_revwalk.proofs.Members.{nothing, one_of-left, one_of-right, one_of-cases, one_of-single, one_of-head, take_next}
use Rattle.gix_range.specs.Ranges.{Keeps}

pub keeps_none : (h : History) (excluded : List ObjectId) → Keeps h [] excluded []
keeps_none h excluded = record { once = nothing; among = λ c k. k; every = λ c k has out. k; exact = λ has acyclic c k. cc }

-- the last candidate is reached
pub keeps_less : (h : History) (xs ex kept : List ObjectId) (x : ObjectId) → (Has h x → IsAncestorOfOne h ex x) → Keeps h xs ex kept → Keeps h (xs ++ x ∷ []) ex kept
keeps_less h xs ex kept x reach at = record {
  once = at.once;
  among = λ c k. one_of-left xs (x ∷ []) c (at.among c k);
  every = λ c k has out. elim (one_of-cases xs (x ∷ []) c k) as (λ _. IsTrue (is_one_of kept c)) [
    | inl a ↦ at.every c a has out
    | inr b ↦ absurd (out (subst (λ z. Has h z → IsAncestorOfOne h ex z) (sym (one_of-single x c b)) reach has))
  ];
  exact = λ has acyclic c k. at.exact (λ d i. has d (one_of-left xs (x ∷ []) d i)) acyclic c k;
}

-- what one more kept id makes of the members
pub added_cases : (kept : List ObjectId) (x c : ObjectId) → IsTrue (is_one_of (added kept x) c) → IsTrue (is_one_of kept c) ⊎ (c ≡ x)
added_cases kept x c = elim (is_one_of kept x) as (λ b. IsTrue (is_one_of (cond b kept (kept ++ x ∷ [])) c) → IsTrue (is_one_of kept c) ⊎ (c ≡ x)) [
  | true ↦ λ k. inl k
  | false ↦ λ k. elim (one_of-cases kept (x ∷ []) c k) as (λ _. IsTrue (is_one_of kept c) ⊎ (c ≡ x)) [ inl a ↦ inl a | inr b ↦ inr (one_of-single x c b) ]
]

pub added_old : (kept : List ObjectId) (x c : ObjectId) → IsTrue (is_one_of kept c) → IsTrue (is_one_of (added kept x) c)
added_old kept x c k = elim (is_one_of kept x) as (λ b. IsTrue (is_one_of (cond b kept (kept ++ x ∷ [])) c)) [ true ↦ k | false ↦ one_of-left kept (x ∷ []) c k ]

pub added_new : (kept : List ObjectId) (x : ObjectId) → IsTrue (is_one_of (added kept x) x)
added_new kept x = elim (is_one_of kept x) as (λ b. is_one_of kept x ≡ b → IsTrue (is_one_of (cond b kept (kept ++ x ∷ [])) x)) [ true ↦ λ k. k | false ↦ λ k. one_of-right kept (x ∷ []) x (one_of-head x []) ] refl

added_once : (kept : List ObjectId) (x : ObjectId) → IsDistinct same_id kept → IsDistinct same_id (added kept x)
added_once kept x d = elim (is_one_of kept x) as (λ b. is_one_of kept x ≡ b → IsDistinct same_id (cond b kept (kept ++ x ∷ []))) [ true ↦ λ k. d | false ↦ λ k. IsDistinct-push same_id-laws kept x d k ] refl

-- the last candidate is not reached
pub keeps_more : (h : History) (xs ex kept : List ObjectId) (x : ObjectId) → (IsAcyclicFrom h ex → ¬ IsAncestorOfOne h ex x) → Keeps h xs ex kept → Keeps h (xs ++ x ∷ []) ex (added kept x)
keeps_more h xs ex kept x never at = record {
  once = added_once kept x at.once;
  among = λ c k. elim (added_cases kept x c k) as (λ _. IsTrue (is_one_of (xs ++ x ∷ []) c)) [
    | inl a ↦ one_of-left xs (x ∷ []) c (at.among c a)
    | inr is ↦ subst (λ z. IsTrue (is_one_of (xs ++ x ∷ []) z)) (sym is) (one_of-right xs (x ∷ []) x (one_of-head x []))
  ];
  every = λ c k has out. elim (one_of-cases xs (x ∷ []) c k) as (λ _. IsTrue (is_one_of (added kept x) c)) [
    | inl a ↦ added_old kept x c (at.every c a has out)
    | inr b ↦ subst (λ z. IsTrue (is_one_of (added kept x) z)) (sym (one_of-single x c b)) (added_new kept x)
  ];
  exact = λ has acyclic c k. elim (added_cases kept x c k) as (λ _. ¬ IsAncestorOfOne h ex c) [
    | inl a ↦ at.exact (λ d i. has d (one_of-left xs (x ∷ []) d i)) acyclic c a
    | inr is ↦ subst (λ z. ¬ IsAncestorOfOne h ex z) (sym is) (never acyclic)
  ];
}

-- the next candidate
pub keeps_next : (h : History) (xs ex kept kept' : List ObjectId) (i : ℕ) (d : ObjectId) → i < length xs → Keeps h (take i xs) ex kept
    → ((ys : List ObjectId) → Keeps h ys ex kept → Keeps h (ys ++ get_or xs i d ∷ []) ex kept') → Keeps h (take (i + 1) xs) ex kept'
keeps_next h xs ex kept kept' i d lt at step = subst (λ l. Keeps h l ex kept') (sym (take_next xs i d lt)) (step (take i xs) at)
