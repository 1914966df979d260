-- What a heap or a stack gives comes no later than the rest.
use Rattle.std.proofs.Common.{◌≡◌, ℕ, ◌<◌, ◌≤◌, ◌<ℤ◌, true, false, Option, Some, None, List, [], ◌∷◌, ◌++◌, length, get_or, IfSome, IfNone, IsPermutation, option_to_list, sym, inl, inr, arith, length-append, refl, nat_cmp, int_cmp, is_lt, Ordering, Less, Equal, Greater}
use Rattle.std.specs.Ordering.{MatchOrdering, ordering_then}
use Rattle.std.specs.Cmp.{int_ranks}
use Rattle.std.specs.List.{AllByRecursion}
use Rattle.std.specs.BinaryHeap.{IsHeap, IsUpperBound, PopsGreatest}
use Rattle.std.proofs.lemmas.Bool.{both_ways, cases_lt}
use Rattle.std.proofs.lemmas.Cmp.{ranked}
use Rattle.std.proofs.lemmas.List.{get_or_append_left, get_or_push, length_push}
use Rattle.std.proofs.lemmas.List.Elements.{recursion_from_All}
use Rattle.std.proofs.lemmas.List.Sorted.{IsPermutation-to_front}
use Rattle.gix_order.specs.declared.commits.Order.TheVariants.{Dated, Topological}
use Rattle.gix_order.specs.declared.front.Free.{Free}
use Rattle.gix_order.specs.Fronts.{free_cmp, IsAhead, IsRising}

ahead_by : (x y : Free) (o p q : Ordering) → MatchOrdering o (x.time <ℤ y.time) (x.time ≡ y.time) (y.time <ℤ x.time)
    → MatchOrdering p (y.since.0 < x.since.0) (y.since.0 ≡ x.since.0) (x.since.0 < y.since.0)
    → is_lt (ordering_then o (ordering_then p q)) ≡ false → IsAhead Dated x y
ahead_by x y Less p q s t h = absurd (both_ways true h refl)
ahead_by x y Greater p q s t h = inl s
ahead_by x y Equal Less q s t h = absurd (both_ways true h refl)
ahead_by x y Equal Equal q s t h = inr (sym s, omega arith)
ahead_by x y Equal Greater q s t h = inr (sym s, omega arith)

ahead : (x y : Free) → is_lt (free_cmp x y) ≡ false → IsAhead Dated x y
ahead x y h = ahead_by x y (int_cmp x.time y.time) (nat_cmp y.since.0 x.since.0) (nat_cmp x.place y.place) (int_ranks x.time y.time) (ranked y.since.0 x.since.0 _ refl) h

all_ahead : (x : Free) (ys : List Free) → IsUpperBound free_cmp x ys → AllByRecursion (IsAhead Dated x) ys
all_ahead x [] h = tt
all_ahead x (y ∷ ys) h = (ahead x y h.0, all_ahead x ys h.1)

pub heap_ahead : (o : Option Free) (xs ys : List Free) → IfSome o (λ x. PopsGreatest free_cmp xs x ys) → IfSome o (λ x. IsHeap free_cmp xs → AllByRecursion (IsAhead Dated x) xs)
heap_ahead None xs ys h = tt
heap_ahead (Some x) xs ys h = λ s. all_ahead x xs (h s).1

pub heap_kept : (B : Type 0) (o : Option Free) (xs ys : List Free) → IfSome o (λ x. PopsGreatest free_cmp xs x ys) → IfNone o ((ys ≡ xs) × B) → IsHeap free_cmp xs → IsHeap free_cmp ys
heap_kept B None xs ys h e s = rw e.0 s
heap_kept B (Some x) xs ys h e s = (h s).0

pub stack_taken : (o : Option Free) (xs ys : List Free) → xs ≡ ys ++ option_to_list o → IfSome o (λ x. IsPermutation xs (x ∷ ys))
stack_taken None xs ys e = tt
stack_taken (Some x) xs ys e = rw e (IsPermutation-to_front ys x)

rising_ahead : (x : Free) (ys : List Free) → IsRising (ys ++ x ∷ []) → (k : ℕ) (d : Free) → k < length (ys ++ x ∷ []) → IsAhead Topological x (get_or (ys ++ x ∷ []) k d)
rising_ahead x ys s k d h =
    let len = length_push ys x in
    elim (cases_lt k (length ys)) [
      | inl lt ↦
          let last = get_or_push ys x d (length ys) refl in
          let under : (get_or (ys ++ x ∷ []) k d).since.0 ≤ (get_or (ys ++ x ∷ []) (length ys) d).since.0 = s k (length ys) d lt (omega arith) in
          rw last at under
      | inr ge ↦
          let last = get_or_push ys x d k (omega arith) in
          rw last (omega arith)
    ]

pub stack_ahead : (o : Option Free) (xs ys : List Free) → xs ≡ ys ++ option_to_list o → IfSome o (λ x. IsRising xs → AllByRecursion (IsAhead Topological x) xs)
stack_ahead None xs ys e = tt
stack_ahead (Some x) xs ys e = rw e (λ s. recursion_from_All (IsAhead Topological x) (ys ++ x ∷ []) (rising_ahead x ys s))

pub stack_kept : (o : Option Free) (xs ys : List Free) → xs ≡ ys ++ option_to_list o → IsRising xs → IsRising ys
stack_kept o xs ys e s =
    let joined : IsRising (ys ++ option_to_list o) = rw e at s in
    λ i j d h k.
    let len = length-append ys (option_to_list o) in
    let one = get_or_append_left ys (option_to_list o) d i (omega arith) in
    let two = get_or_append_left ys (option_to_list o) d j k in
    let under = joined i j d h (omega arith) in
    rw (← one, ← two) under
