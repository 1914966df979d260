-- Lists of which each element is less than those after it.
use Rattle.std.proofs.Common.{◌≡◌, List, [], ◌∷◌, ◌++◌}
use Rattle.std.specs.List.{AllByRecursion}
use Rattle.std.specs.List.Sorted.{IsStrictlySortedBy}
use Rattle.std.specs.declared.cmp.Ordering.{Ordering}
use Rattle.std.specs.declared.cmp.Ordering.TheVariants.{Less}

pub all-from : {X : Type 0} {P Q : X → Type 0} → ((x : X) → P x → Q x) → (xs : List X) → AllByRecursion P xs → AllByRecursion Q xs
all-from f [] h = tt
all-from f (x ∷ xs) h = (f x h.0, all-from f xs h.1)

pub all-last : {X : Type 0} (P : X → Type 0) (xs : List X) (x : X) → AllByRecursion P xs → P x → AllByRecursion P (xs ++ x ∷ [])
all-last P [] x h p = (p, tt)
all-last P (y ∷ ys) x h p = (h.0, all-last P ys x h.1 p)

all-front : {X : Type 0} (P : X → Type 0) (xs ys : List X) → AllByRecursion P (xs ++ ys) → AllByRecursion P xs
all-front P [] ys h = tt
all-front P (x ∷ xs) ys h = (h.0, all-front P xs ys h.1)

all-at : {X : Type 0} (P : X → Type 0) (xs : List X) (x : X) (ys : List X) → AllByRecursion P (xs ++ x ∷ ys) → P x
all-at P [] x ys h = h.0
all-at P (z ∷ zs) x ys h = all-at P zs x ys h.1

module _ {K : Type 0} (c : K → K → Ordering) where
  -- the elements before one are less than it, and those behind it are greater
  pub rising-before : (xs : List K) (x : K) (ys : List K) → IsStrictlySortedBy c (xs ++ x ∷ ys) → AllByRecursion (λ y. c y x ≡ Less) xs
  unfolding IsStrictlySortedBy
  rising-before [] x ys h = tt
  rising-before (z ∷ zs) x ys h = (all-at (λ y. c z y ≡ Less) zs x ys h.0, rising-before zs x ys h.1)

  pub rising-behind : (xs : List K) (x : K) (ys : List K) → IsStrictlySortedBy c (xs ++ x ∷ ys) → AllByRecursion (λ y. c x y ≡ Less) ys
  unfolding IsStrictlySortedBy
  rising-behind [] x ys h = h.0
  rising-behind (z ∷ zs) x ys h = rising-behind zs x ys h.1

  pub rising-front : (xs ys : List K) → IsStrictlySortedBy c (xs ++ ys) → IsStrictlySortedBy c xs
  unfolding IsStrictlySortedBy
  rising-front [] ys h = tt
  rising-front (x ∷ xs) ys h = (all-front _ xs ys h.0, rising-front xs ys h.1)

  pub rising-rest : (xs : List K) (x : K) (ys : List K) → IsStrictlySortedBy c (xs ++ x ∷ ys) → IsStrictlySortedBy c ys
  unfolding IsStrictlySortedBy
  rising-rest [] x ys h = h.1
  rising-rest (z ∷ zs) x ys h = rising-rest zs x ys h.1

  -- an element may follow that is greater than all
  pub rising-last : (xs : List K) (x : K) → IsStrictlySortedBy c xs → AllByRecursion (λ y. c y x ≡ Less) xs → IsStrictlySortedBy c (xs ++ x ∷ [])
  unfolding IsStrictlySortedBy
  rising-last [] x h below = (tt, tt)
  rising-last (z ∷ zs) x h below = (all-last (λ y. c z y ≡ Less) zs x h.0 below.0, rising-last zs x h.1 below.1)
