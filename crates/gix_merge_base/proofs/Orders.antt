-- What follows from the order of ids.
use Rattle.std.proofs.Common.{◌≡◌, ℕ, ℤ, refl, ap, sym, subst, ◌∙◌, List, [], ◌∷◌, ◌⊎◌, inl, inr, IsTrue, ◌↔◌, ◌<◌, arith, ◌≤ℤ◌}
use Rattle.std.specs.List.{AllByRecursion}
use Rattle.std.specs.List.Sorted.{IsStrictlySortedBy}
use Rattle.std.specs.Cmp.{tied_itself}
use Rattle.std.specs.Ordering.{nat_cmp, int_cmp, ordering_then, ordering_reverse}
use Rattle.std.specs.declared.cmp.Ordering.{Ordering}
use Rattle.std.specs.declared.cmp.Ordering.TheVariants.{Less}
use Rattle.std.proofs.lemmas.Cmp.{ranked, int_ranked}
use Rattle.std.proofs.lemmas.Int.{ints}
use Rattle.gix_base.specs.declared.hash.ObjectId.{ObjectId}
use Rattle.gix_revwalk.specs.History.{History, is_one_of}
use Rattle.gix_revwalk.proofs.Members.{one_of-head, one_of-tail, one_of-cons_cases}
use Rattle.gix_merge_base.specs.Bases.{AreBases}
use Rattle.gix_merge_base.specs.Keys.{choice, IsInOrder, InFallingOrder, KeyAtMost}
use Rattle.gix_merge_base.proofs.Choice.{choice_total}

each_of : (P : ObjectId → Type 0) (xs : List ObjectId) → AllByRecursion P xs → (y : ObjectId) → IsTrue (is_one_of xs y) → P y
each_of P [] a y k = cc
each_of P (x ∷ xs) a y k = elim (one_of-cons_cases x xs y k) as (λ _. P y) [ inl is ↦ subst P (sym is) a.0 | inr m ↦ each_of P xs a.1 y m ]

-- the head comes before each of the rest
pub head_first : (h : History) (x : ObjectId) (xs : List ObjectId) → IsInOrder h (x ∷ xs) → (y : ObjectId) → IsTrue (is_one_of xs y) → choice h x y ≡ Less
unfolding IsStrictlySortedBy
head_first h x xs o y k = each_of (λ z. choice h x z ≡ Less) xs o.0 y k

rest_in_order : (h : History) (x : ObjectId) (xs : List ObjectId) → IsInOrder h (x ∷ xs) → IsInOrder h xs
unfolding IsStrictlySortedBy
rest_in_order h x xs o = o.1

by_time : (s t : ℤ) (r id : Ordering) → r ≡ int_cmp s t → ordering_then r id ≡ Less → s ≤ℤ t
by_time s t Ordering.Less id e k = let i = int_ranked s t Ordering.Less e in omega (arith, ints)
by_time s t Ordering.Equal id e k = let i = int_ranked s t Ordering.Equal e in omega (arith, ints)
by_time s t Ordering.Greater id e k = cc

by_key : (g i : ℕ) (s t : ℤ) (r id : Ordering) → r ≡ nat_cmp g i → ordering_then r (ordering_then (int_cmp s t) id) ≡ Less → (g < i) ⊎ ((g ≡ i) × (s ≤ℤ t))
by_key g i s t Ordering.Less id e k = inl (ranked g i Ordering.Less e)
by_key g i s t Ordering.Equal id e k = inr (ranked g i Ordering.Equal e, by_time s t (int_cmp s t) id refl k)
by_key g i s t Ordering.Greater id e k = cc

key_falls : (h : History) (x y : ObjectId) → choice h x y ≡ Less → KeyAtMost h y x
key_falls h x y less = by_key _ _ _ _ _ _ refl less

pub ordered_falls : (h : History) (ids : List ObjectId) → IsInOrder h ids → InFallingOrder h ids
ordered_falls h [] o = tt
ordered_falls h (x ∷ xs) o = ((λ y k. key_falls h x y (head_first h x xs o y k)), ordered_falls h xs (rest_in_order h x xs o))

module _ (h : History) where
  not_before_itself : (x : ObjectId) → choice h x x ≡ Less → ⊥
  not_before_itself x less = let tie = tied_itself (choice_total h) x in cc

  not_both_first : (x y : ObjectId) → choice h x y ≡ Less → choice h y x ≡ Less → ⊥
  not_both_first x y p q = let turned = (choice_total h).antisymm x y ∙ ap ordering_reverse q in cc

  -- ids in order with the same members are one list
  one_order : (xs ys : List ObjectId) → IsInOrder h xs → IsInOrder h ys → ((c : ObjectId) → IsTrue (is_one_of xs c) ↔ IsTrue (is_one_of ys c)) → xs ≡ ys
  one_order [] [] o p same = refl
  one_order [] (y ∷ ys) o p same = let none = (same y).1 (one_of-head y ys) in cc
  one_order (x ∷ xs) [] o p same = let none = (same x).0 (one_of-head x xs) in cc
  one_order (x ∷ xs) (y ∷ ys) o p same = ap (λ z. z ∷ xs) heads ∙ ap (λ l. y ∷ l) (one_order xs ys (rest_in_order h x xs o) (rest_in_order h y ys p) rest)
    where
      heads : x ≡ y
      heads = elim (one_of-cons_cases y ys x ((same x).0 (one_of-head x xs))) as (λ _. x ≡ y) [
        | inl is ↦ is
        | inr later ↦ elim (one_of-cons_cases x xs y ((same y).1 (one_of-head y ys))) as (λ _. x ≡ y) [
          | inl is ↦ sym is
          | inr behind ↦ absurd (not_both_first x y (head_first h x xs o y behind) (head_first h y ys p x later))
        ]
      ]

      rest : (c : ObjectId) → IsTrue (is_one_of xs c) ↔ IsTrue (is_one_of ys c)
      rest c = (
        λ k. elim (one_of-cons_cases y ys c ((same c).0 (one_of-tail x xs c k))) as (λ _. IsTrue (is_one_of ys c)) [
          | inl is ↦ absurd (not_before_itself x (subst (λ z. choice h x z ≡ Less) (is ∙ sym heads) (head_first h x xs o c k)))
          | inr m ↦ m
        ],
        λ k. elim (one_of-cons_cases x xs c ((same c).1 (one_of-tail y ys c k))) as (λ _. IsTrue (is_one_of xs c)) [
          | inl is ↦ absurd (not_before_itself y (subst (λ z. choice h y z ≡ Less) (is ∙ heads) (head_first h y ys p c k)))
          | inr m ↦ m
        ],
      )

  pub ordered_bases : (f : ObjectId) (os xs ys : List ObjectId) → AreBases h f os xs → IsInOrder h xs → AreBases h f os ys → IsInOrder h ys → xs ≡ ys
  ordered_bases f os xs ys a o b p = one_order xs ys o p (λ c. ((λ k. (b c).1 ((a c).0 k)), (λ k. (a c).1 ((b c).0 k))))
