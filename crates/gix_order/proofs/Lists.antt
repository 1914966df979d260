-- Lists of places: which are in a list, and where one stands last.
use Rattle.std.proofs.Common.{◌≡◌, ℕ, suc, ◌-◌, ◌<◌, ◌≤◌, ◌==◌, ◌||◌, true, false, cond, List, [], ◌∷◌, ◌++◌, length, get_or, refl, ◌∙◌, arith, eq-eqb, ne_eqb}
use Rattle.std.specs.List.{range_with_len}
use Rattle.std.proofs.Math.Bool.{or-false}
use Rattle.std.proofs.lemmas.List.{length-reverse, get_or-reverse}
use Rattle.std.proofs.lemmas.List.FromFn.{length-range_with_len, get_or-range_with_len}
use Rattle.gix_order.specs.declared.commits.Order.{Order}
use Rattle.gix_order.specs.declared.commits.Order.TheVariants.{Dated, Topological}
use Rattle.gix_order.specs.Orders.{has, last_place, places}

pub has_push : (xs : List ℕ) (x c : ℕ) → has (xs ++ x ∷ []) c ≡ (has xs c || (x == c))
has_push [] x c = or-false (x == c)
has_push (y ∷ ys) x c =
    elim (y == c) as (λ b. (b || has (ys ++ x ∷ []) c) ≡ ((b || has ys c) || (x == c))) [ true ↦ refl | false ↦ has_push ys x c ]

pub has_other : (xs : List ℕ) (x c : ℕ) → (x ≡ c → ⊥) → has (xs ++ x ∷ []) c ≡ has xs c
has_other xs x c n = rw (has_push xs x c, ne_eqb x c n) (or-false (has xs c))

pub has_last : (xs : List ℕ) (x : ℕ) → has (xs ++ x ∷ []) x ≡ true
has_last xs x =
    rw (has_push xs x x, eq-eqb x x refl) (elim (has xs x) as (λ b. (b || true) ≡ true) [ true ↦ refl | false ↦ refl ])

pub last_place_other : (xs : List ℕ) (x c : ℕ) → (x ≡ c → ⊥) → last_place (xs ++ x ∷ []) c ≡ last_place xs c
last_place_other [] x c n = refl
last_place_other (y ∷ ys) x c n = rw (has_other ys x c n, last_place_other ys x c n) refl

pub last_place_push : (xs : List ℕ) (x : ℕ) → last_place (xs ++ x ∷ []) x ≡ length xs
last_place_push [] x = refl
last_place_push (y ∷ ys) x = rw (has_last ys x, last_place_push ys x) refl

pub last_place_le : (xs : List ℕ) (c : ℕ) → last_place xs c ≤ length xs
last_place_le [] c = omega arith
last_place_le (y ∷ ys) c =
    elim (has ys c) as (λ b. cond b (suc (last_place ys c)) 0 ≤ suc (length ys)) [ true ↦ omega (arith, last_place_le ys c) | false ↦ omega arith ]

pub length-places : (order : Order) (n : ℕ) → length (places order n) ≡ n
length-places Dated n = length-range_with_len 0 n
length-places Topological n = length-reverse (range_with_len 0 n) ∙ length-range_with_len 0 n

pub get_or-dated : (n k : ℕ) → k < n → get_or (places Dated n) k 0 ≡ k
get_or-dated n k h = omega (arith, get_or-range_with_len 0 n k 0 h)

pub get_or-topological : (n k : ℕ) → k < n → get_or (places Topological n) k 0 ≡ n - 1 - k
get_or-topological n k h =
    let len = length-range_with_len 0 n in
    let there : k < length (range_with_len 0 n) = omega arith in
    let at = get_or-reverse (range_with_len 0 n) k 0 there in
    let place = get_or-range_with_len 0 n (n - 1 - k) 0 (omega arith) in
    rw (at, len) (omega (arith, place))
