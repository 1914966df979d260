-- The front of rising keys rises.
use Rattle.std.proofs.Common.{◌≡◌, List, [], ◌∷◌, ◌++◌, sym, subst}
use Rattle.std.specs.List.{AllByRecursion}
use Rattle.std.specs.List.Sorted.{IsStrictlySortedBy}
use Rattle.std.specs.declared.cmp.Ordering.{Ordering}

all_front : {K : Type 0} (P : K → Type 0) (xs ys : List K) → AllByRecursion P (xs ++ ys) → AllByRecursion P xs
all_front P [] ys h = tt
all_front P (x ∷ xs) ys h = (h.0, all_front P xs ys h.1)

pub rising_front : {K : Type 0} (c : K → K → Ordering) (xs ys : List K) → IsStrictlySortedBy c (xs ++ ys) → IsStrictlySortedBy c xs
unfolding IsStrictlySortedBy
rising_front c [] ys h = tt
rising_front c (x ∷ xs) ys h = (all_front _ xs ys h.0, rising_front c xs ys h.1)

-- the same of keys that are the front of others
pub rising_part : {K : Type 0} (c : K → K → Ordering) (all xs ys : List K) → xs ++ ys ≡ all → IsStrictlySortedBy c all → IsStrictlySortedBy c xs
rising_part c all xs ys e h = rising_front c xs ys (subst (IsStrictlySortedBy c) (sym e) h)
