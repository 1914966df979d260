-- How often a commit is in a list, and sums over the places that were not shown.
use Rattle.std.proofs.Common.{◌≡◌, ℕ, zero, suc, ◌+◌, ◌-◌, ◌<◌, ◌≤◌, ◌==◌, true, false, cond, List, [], ◌∷◌, ◌++◌, length, get_or, set, take, reverse, sum_by, refl, sym, ap, ◌∙◌, inl, inr, arith, eq-eqb, ne_eqb, eqb-true, add-one}
use Rattle.std.specs.List.{range_with_len}
use Rattle.std.proofs.lemmas.Bool.{cases_eq, cases_Bool, or_cases, or_parts, both_ways}
use Rattle.std.proofs.lemmas.Grind.{get_or-set_at}
use Rattle.std.proofs.lemmas.List.{take_more, get_or-set_other}
use Rattle.std.proofs.lemmas.List.Sums.{sum_by-cons}
use Rattle.std.proofs.lemmas.List.Sorted.{IsPermutation-reverse, sum_by-IsPermutation}
use Rattle.gix_order.specs.declared.commits.Order.{Order}
use Rattle.gix_order.specs.declared.commits.Order.TheVariants.{Dated, Topological}
use Rattle.gix_order.specs.Orders.{has, places}
use Rattle.gix_order.specs.Counts.{times_in, sum_over}
use Rattle.gix_order.proofs.Lists.{has_other, has_last}

-- 1 if x is p, and otherwise 0
abbrev pub one_if : ℕ → ℕ → ℕ
one_if x p = cond (x == p) 1 0

pub hit : (x p : ℕ) → x ≡ p → one_if x p ≡ 1
hit x p e = rw (eq-eqb x p e) refl

pub miss : (x p : ℕ) → (x ≡ p → ⊥) → one_if x p ≡ 0
miss x p n = rw (ne_eqb x p n) refl

pub times_in-append : (xs ys : List ℕ) (p : ℕ) → times_in (xs ++ ys) p ≡ times_in xs p + times_in ys p
times_in-append [] ys p = omega arith
times_in-append (x ∷ xs) ys p = omega (arith, times_in-append xs ys p)

pub times_in_more : (xs : List ℕ) (i p : ℕ) → i < length xs → times_in (take (i + 1) xs) p ≡ times_in (take i xs) p + one_if (get_or xs i 0) p
times_in_more xs i p h = rw (take_more xs i 0 h, times_in-append) (omega arith)

-- the counts are those of first and the first i of xs; one more is added
pub one_added : (left first xs : List ℕ) (i p x : ℕ) → i < length xs → x ≡ get_or xs i 0 → length left ≡ length first → p < length first
    → get_or left p 0 ≡ get_or first p 0 + times_in (take i xs) p
    → get_or (set left x (get_or left x 0 + 1)) p 0 ≡ get_or first p 0 + times_in (take (i + 1) xs) p
one_added left first xs i p x h at len in' is =
    let more : times_in (take (i + 1) xs) p ≡ times_in (take i xs) p + one_if x p = rw at (times_in_more xs i p h) in
    elim (cases_eq x p) [
      | inl e ↦
          let one = hit x p e in
          let same : get_or left x 0 ≡ get_or left p 0 = ap (λ k. get_or left k 0) e in
          let put = get_or-set_at left x p (get_or left x 0 + 1) 0 (sym e) (omega arith) in
          omega arith
      | inr n ↦
          let none = miss x p n in
          let other = get_or-set_other left x p (get_or left x 0 + 1) 0 (λ q. n (sym q)) in
          omega arith
    ]

-- one is taken from the count of x
pub one_taken : (left : List ℕ) (p x : ℕ) → p < length left
    → get_or (set left x (get_or left x 0 - 1)) p 0 ≡ get_or left p 0 - times_in (x ∷ []) p
one_taken left p x in' =
    elim (cases_eq x p) [
      | inl e ↦
          let one = hit x p e in
          let same : get_or left x 0 ≡ get_or left p 0 = ap (λ k. get_or left k 0) e in
          let put = get_or-set_at left x p (get_or left x 0 - 1) 0 (sym e) (omega arith) in
          omega arith
      | inr n ↦
          let none = miss x p n in
          let other = get_or-set_other left x p (get_or left x 0 - 1) 0 (λ q. n (sym q)) in
          omega arith
    ]

pub times_some : (xs : List ℕ) (p : ℕ) → has xs p ≡ true → 1 ≤ times_in xs p
times_some [] p h = absurd (both_ways false refl h)
times_some (x ∷ xs) p h =
    elim (or_cases (x == p) (has xs p) h) [
      | inl e ↦ let one = hit x p (eqb-true x p e) in omega arith
      | inr k ↦ omega (arith, times_some xs p k)
    ]

pub times_none : (xs : List ℕ) (p : ℕ) → has xs p ≡ false → times_in xs p ≡ 0
times_none [] p h = refl
times_none (x ∷ xs) p h = let parts = or_parts (x == p) (has xs p) h in rw parts.0 (omega (arith, times_none xs p parts.1))

times_below : (a n p : ℕ) → p < a → times_in (range_with_len a n) p ≡ 0
times_below a zero p h = refl
times_below a (suc n) p h =
    let none = miss a p (λ e. absurd (omega arith)) in
    omega (arith, times_below (a + 1) n p (omega arith))

times_within : (a n p : ℕ) → a ≤ p → p < a + n → times_in (range_with_len a n) p ≡ 1
times_within a zero p h k = absurd (omega arith)
times_within a (suc n) p h k =
    elim (cases_eq a p) [
      | inl e ↦ let one = hit a p e in omega (arith, times_below (a + 1) n p (omega arith))
      | inr d ↦ let none = miss a p d in omega (arith, times_within (a + 1) n p (omega arith) (omega arith))
    ]

times_in-sum : (xs : List ℕ) (p : ℕ) → times_in xs p ≡ sum_by (λ x. one_if x p) xs
times_in-sum [] p = refl
times_in-sum (x ∷ xs) p = omega (arith, sum_by-cons (λ y. one_if y p) x xs, times_in-sum xs p)

-- each place is met once with the list
pub times_in-places : (order : Order) (n p : ℕ) → p < n → times_in (places order n) p ≡ 1
times_in-places Dated n p h = times_within 0 n p (omega arith) (omega arith)
times_in-places Topological n p h =
    let xs = range_with_len 0 n in
    times_in-sum (reverse xs) p ∙ sum_by-IsPermutation (λ x. one_if x p) xs (reverse xs) (IsPermutation-reverse xs) ∙ sym (times_in-sum xs p) ∙ times_within 0 n p (omega arith) (omega arith)

pub sum_over_more : (n : ℕ) (shown : List ℕ) (f : ℕ → ℕ) → has shown n ≡ false → sum_over (n + 1) shown f ≡ sum_over n shown f + f n
sum_over_more n shown f e = rw (add-one, e) refl

sum_over_other : (n : ℕ) (shown : List ℕ) (f : ℕ → ℕ) (c : ℕ) → n ≤ c → sum_over n (shown ++ c ∷ []) f ≡ sum_over n shown f
sum_over_other zero shown f c h = refl
sum_over_other (suc n) shown f c h =
    let same : has (shown ++ c ∷ []) n ≡ has shown n = has_other shown c n (λ q. absurd (omega arith)) in
    rw (same, sum_over_other n shown f c (omega arith)) refl

-- a commit that is shown takes its part of the sum
pub sum_over_shown : (n : ℕ) (shown : List ℕ) (f : ℕ → ℕ) (c : ℕ) → c < n → has shown c ≡ false → sum_over n shown f ≡ sum_over n (shown ++ c ∷ []) f + f c
sum_over_shown zero shown f c h k = absurd (omega arith)
sum_over_shown (suc n) shown f c h k =
    elim (cases_eq c n) [
      | inl e ↦
          let before : has shown n ≡ false = ap (has shown) (sym e) ∙ k in
          let after : has (shown ++ c ∷ []) n ≡ true = ap (has (shown ++ c ∷ [])) (sym e) ∙ has_last shown c in
          let below = sum_over_other n shown f c (omega arith) in
          let part : f n ≡ f c = ap f (sym e) in
          rw (before, after) (omega arith)
      | inr d ↦
          let same = has_other shown c n d in
          let below = sum_over_shown n shown f c (omega arith) k in
          rw same (omega arith)
    ]

pub sum_over_none : (n : ℕ) (shown : List ℕ) (f : ℕ → ℕ) → ((k : ℕ) → k < n → has shown k ≡ false → f k ≡ 0) → sum_over n shown f ≡ 0
sum_over_none zero shown f h = refl
sum_over_none (suc n) shown f h =
    let below = sum_over_none n shown f (λ k lt. h k (omega arith)) in
    elim (cases_Bool (has shown n)) [
      | inl t ↦ rw t (omega arith)
      | inr u ↦ let here = h n (omega arith) u in rw u (omega arith)
    ]

pub sum_over_each : (n : ℕ) (shown : List ℕ) (f : ℕ → ℕ) (k : ℕ) → sum_over n shown f ≡ 0 → k < n → has shown k ≡ false → f k ≡ 0
sum_over_each zero shown f k z h u = absurd (omega arith)
sum_over_each (suc n) shown f k z h u =
    elim (cases_eq k n) [
      | inl e ↦
          let here : has shown n ≡ false = ap (has shown) (sym e) ∙ u in
          let sum : sum_over n shown f + f n ≡ 0 = rw here at z in
          ap f e ∙ omega arith
      | inr d ↦ sum_over_each n shown f k (omega arith) (omega arith) u
    ]
