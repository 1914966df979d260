-- The order of keys, and how they fall along paths.
use Rattle.std.proofs.Common.{◌≡◌, ℕ, refl, sym, subst, ◌∙◌, List, [], ◌∷◌, ◌++◌, ◌⊎◌, inl, inr, IsTrue, ◌<◌, ◌≤◌, arith, ℤ, ◌<ℤ◌, ◌≤ℤ◌}
use Rattle.std.proofs.lemmas.Int.{ints}
use Rattle.std.proofs.Math.Nat.{eq-or-lt_of_le}
use Rattle.gix_base.specs.declared.hash.ObjectId.{ObjectId}
use Rattle.gix_revwalk.specs.History.{History, IsEdge, IsAncestor, IsAncestorOfOne, generation_of, is_one_of}
use Rattle.gix_revwalk.specs.History.IsAncestor.{itself, further}
use Rattle.gix_merge_base.specs.Keys.{KeyBelow, KeyAtMost, InFallingOrder}
use Rattle.gix_merge_base.specs.Premises.{IsAcyclicFrom, GenerationsNeverRiseFrom, KeysFallFrom, NoneRisesFrom}
use Rattle.gix_revwalk.proofs.Members.{one_of-cases, one_of-single, one_of-head, one_of-tail}
use Rattle.gix_revwalk.proofs.Ancestors.{anc-trans}

abbrev Lower : ℕ → ℤ → ℕ → ℤ → Type 0
Lower g s h t = (g < h) ⊎ ((g ≡ h) × (s <ℤ t))

abbrev AsLow : ℕ → ℤ → ℕ → ℤ → Type 0
AsLow g s h t = (g < h) ⊎ ((g ≡ h) × (s ≤ℤ t))

lower-trans : (a b c : ℕ) (r s t : ℤ) → Lower a r b s → Lower b s c t → Lower a r c t
lower-trans a b c r s t (inl x) (inl y) = inl (omega arith)
lower-trans a b c r s t (inl x) (inr y) = inl (let e = y.0 in omega arith)
lower-trans a b c r s t (inr x) (inl y) = inl (let e = x.0 in omega arith)
lower-trans a b c r s t (inr x) (inr y) = inr (x.0 ∙ y.0, let e = x.1 in let d = y.1 in omega (arith, ints))

as_low-trans : (a b c : ℕ) (r s t : ℤ) → AsLow a r b s → AsLow b s c t → AsLow a r c t
as_low-trans a b c r s t (inl x) (inl y) = inl (omega arith)
as_low-trans a b c r s t (inl x) (inr y) = inl (let e = y.0 in omega arith)
as_low-trans a b c r s t (inr x) (inl y) = inl (let e = x.0 in omega arith)
as_low-trans a b c r s t (inr x) (inr y) = inr (x.0 ∙ y.0, let e = x.1 in let d = y.1 in omega (arith, ints))

apart : (a b : ℕ) (r s : ℤ) → AsLow a r b s → Lower b s a r → ⊥
apart a b r s (inl x) (inl y) = omega arith
apart a b r s (inl x) (inr y) = let e = y.0 in omega arith
apart a b r s (inr x) (inl y) = let e = x.0 in omega arith
apart a b r s (inr x) (inr y) = let e = x.1 in let d = y.1 in omega (arith, ints)

from_parts : (a b : ℕ) (r s : ℤ) → a ≤ b → r ≤ℤ s → AsLow a r b s
from_parts a b r s x y = elim (eq-or-lt_of_le x) as (λ _. AsLow a r b s) [ inl e ↦ inr (e, y) | inr l ↦ inl l ]

pub before-trans : (h : History) (a b c : ObjectId) → KeyBelow h a b → KeyBelow h b c → KeyBelow h a c
before-trans h a b c x y = lower-trans _ _ _ _ _ _ x y

pub at_most-trans : (h : History) (a b c : ObjectId) → KeyAtMost h a b → KeyAtMost h b c → KeyAtMost h a c
at_most-trans h a b c x y = as_low-trans _ _ _ _ _ _ x y

pub not_above : (h : History) (a b : ObjectId) → KeyAtMost h a b → KeyBelow h b a → ⊥
not_above h a b x y = apart _ _ _ _ x y

pub rises_not : (h : History) (ids : List ObjectId) → NoneRisesFrom h ids → (a b : ObjectId) → IsAncestorOfOne h ids a → IsEdge h a b → KeyAtMost h b a
rises_not h ids none a b reached e = let r = none a b reached e in from_parts _ _ _ _ r.0 r.1

pub falls_along : (h : History) (ids : List ObjectId) → KeysFallFrom h ids → (a c : ObjectId) → IsAncestorOfOne h ids a → IsAncestor h a c → (a ≡ c) ⊎ KeyBelow h c a
falls_along h ids falls a c reached (itself has) = inl refl
falls_along h ids falls a c reached (further b c' p e) =
    let below : KeyBelow h c b = falls b c (reached.0, reached.1, anc-trans h reached.0 a b reached.2 p) e in
    elim (falls_along h ids falls a b reached p) as (λ _. (a ≡ c) ⊎ KeyBelow h c a) [
      | inl is ↦ inr (subst (λ z. KeyBelow h c z) (sym is) below)
      | inr less ↦ inr (before-trans h c b a below less)
    ]

not_itself : (g : ℕ) (t : ℤ) → Lower g t g t → ⊥
not_itself g t (inl x) = omega arith
not_itself g t (inr x) = let e = x.1 in omega (arith, ints)

-- where keys fall there is no way back
pub falls_acyclic : (h : History) (ids : List ObjectId) → KeysFallFrom h ids → IsAcyclicFrom h ids
falls_acyclic h ids falls a b reached e back =
    let below : KeyBelow h b a = falls a b reached e in
    let around : KeyBelow h b b = elim (falls_along h ids falls b a (reached.0, reached.1, further a b reached.2 e) back) as (λ _. KeyBelow h b b) [
      | inl is ↦ subst (λ z. KeyBelow h b z) (sym is) below
      | inr less ↦ before-trans h b a b below less
    ] in
    not_itself _ _ around

pub falls_never : (h : History) (ids : List ObjectId) → KeysFallFrom h ids → GenerationsNeverRiseFrom h ids
falls_never h ids falls a b reached e = elim (falls a b reached e) as (λ _. generation_of h b ≤ generation_of h a) [
  | inl less ↦ omega arith
  | inr same ↦ let k = same.0 in omega arith
]

pub falling_push : (h : History) (xs : List ObjectId) (c : ObjectId) → InFallingOrder h xs → ((r : ObjectId) → IsTrue (is_one_of xs r) → KeyAtMost h c r) → InFallingOrder h (xs ++ c ∷ [])
falling_push h [] c o above = (λ y m. cc, tt)
falling_push h (x ∷ xs) c o above = (
  λ y m. elim (one_of-cases xs (c ∷ []) y m) as (λ _. KeyAtMost h y x) [
    | inl k ↦ o.0 y k
    | inr k ↦ subst (λ z. KeyAtMost h z x) (sym (one_of-single c y k)) (above x (one_of-head x xs))
  ],
  falling_push h xs c o.1 (λ r m. above r (one_of-tail x xs r m)),
)
