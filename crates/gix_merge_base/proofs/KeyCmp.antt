-- The order of keys that the derive wrote, and the top of the queue.
use Rattle.std.proofs.Common.{◌≡◌, ℕ, ℤ, false, refl, sym, subst, List, [], ◌∷◌, ◌⊎◌, inl, inr, IsTrue, ◌<◌, arith, ◌≤ℤ◌}
use Rattle.std.specs.List.{AllByRecursion}
use Rattle.std.specs.List.Sorted.{IsPermutation}
use Rattle.std.specs.declared.cmp.Ordering.{Ordering}
use Rattle.std.specs.Ordering.{nat_cmp, int_cmp, ordering_then, is_lt}
use Rattle.std.proofs.lemmas.Cmp.{ranked, int_ranked}
use Rattle.std.proofs.lemmas.Int.{ints}
use Rattle.gix_base.specs.declared.hash.ObjectId.{ObjectId}
use Rattle.gix_merge_base.specs.declared.merge_base.gen_then_time.GenThenTime.{GenThenTime}
use Rattle.gix_merge_base.specs.contracts.merge_base.gen_then_time.GenThenTimeOrd.TheImpl.{cmp-value}
use Rattle.gix_revwalk.specs.History.{History, is_one_of}
use Rattle.gix_merge_base.specs.Keys.{KeyAtMost}
use Rattle.gix_revwalk.specs.Queue.{IsGreatest}
use Rattle.gix_revwalk.specs.Graph.{Graphed}
use Rattle.gix_revwalk.specs.Number.{place_in}
use Rattle.gix_revwalk.specs.declared.numbers.Number.{Number}
use Rattle.std.proofs.lemmas.List.Elements.{recursion_from_All}
use Rattle.gix_merge_base.specs.PaintQueue.{Keyed, key_at, queued_ids, id_at}
use Rattle.gix_revwalk.proofs.Members.{one_of-cons_cases}
use Rattle.gix_merge_base.proofs.QueueKeys.{key-popped}

abbrev pub IsNoGreater : GenThenTime → GenThenTime → Type 0
IsNoGreater y x = (y.generation < x.generation) ⊎ ((y.generation ≡ x.generation) × (y.time ≤ℤ x.time))

by_time : (s t : ℤ) (r : Ordering) → r ≡ int_cmp s t → is_lt r ≡ false → t ≤ℤ s
by_time s t Ordering.Less e k = cc
by_time s t Ordering.Equal e k = let i = int_ranked s t Ordering.Equal e in omega (arith, ints)
by_time s t Ordering.Greater e k = let i = int_ranked s t Ordering.Greater e in omega (arith, ints)

by_both : (g i : ℕ) (s t : ℤ) (r : Ordering) → r ≡ nat_cmp g i → is_lt (ordering_then r (int_cmp s t)) ≡ false → (i < g) ⊎ ((i ≡ g) × (t ≤ℤ s))
by_both g i s t Ordering.Less e k = cc
by_both g i s t Ordering.Equal e k = let d = ranked g i Ordering.Equal e in inr (sym d, by_time s t (int_cmp s t) refl k)
by_both g i s t Ordering.Greater e k = inl (ranked g i Ordering.Greater e)

pub key_at_most : (x y : GenThenTime) → is_lt (cmp-value.it x y) ≡ false → IsNoGreater y x
key_at_most x y k = by_both x.generation y.generation x.time y.time (nat_cmp x.generation y.generation) refl k

top_of : {S T : Type 0} (h : History) (g : Graphed S T) (k : GenThenTime) (id : ObjectId) → k ≡ key_at h id → (ps : List (GenThenTime × Number)) → Keyed h g ps → AllByRecursion (λ p. is_lt (cmp-value.it k p.0) ≡ false) ps
    → (z : ObjectId) → IsTrue (is_one_of (queued_ids g ps) z) → KeyAtMost h z id
top_of h g k id is [] keyed none z m = cc
top_of h g k id is (p ∷ ps) keyed none z m =
    elim (one_of-cons_cases (id_at g (place_in p.1)) (queued_ids g ps) z m) as (λ _. KeyAtMost h z id) [
      | inl e ↦ subst (λ y. KeyAtMost h y id) (sym e) (subst (λ x. IsNoGreater (key_at h (id_at g (place_in p.1))) x) is (subst (λ y. IsNoGreater y k) keyed.0 (key_at_most k p.0 none.0)))
      | inr r ↦ top_of h g k id is ps keyed.1 none.1 z r
    ]

pub takes_top : {S T : Type 0} (h : History) (g : Graphed S T) (k : GenThenTime) (number : Number) (ps rs : List (GenThenTime × Number)) → IsPermutation ps ((k, number) ∷ rs) → IsGreatest cmp-value.it k ps → Keyed h g ps
    → (z : ObjectId) → IsTrue (is_one_of (queued_ids g ps) z) → KeyAtMost h z (id_at g (place_in number))
takes_top h g k number ps rs perm none keyed =
    top_of h g k (id_at g (place_in number)) (key-popped h g k number ps rs perm keyed) ps keyed (recursion_from_All (λ p. is_lt (cmp-value.it k p.0) ≡ false) ps none)
