-- Commits that enter and leave a queue, by the entries that it keeps.
use Rattle.std.proofs.Common.{◌≡◌, ◌==◌, true, false, refl, ap, sym, subst, List, [], ◌∷◌, map, length, arith}
use Rattle.std.specs.List.Sorted.{IsPermutation}
use Rattle.std.specs.Ordering.{nat_cmp, int_cmp, ordering_then, ordering_reverse, is_lt}
use Rattle.std.specs.Cmp.Lexicographic.{slice_cmp}
use Rattle.std.specs.declared.cmp.Ordering.{Ordering}
use Rattle.std.specs.declared.cmp.Ordering.TheVariants.{Less, Equal, Greater}
use Rattle.std.proofs.lemmas.Cmp.{int_cmp_total, nat_cmp_total, nat_list_cmp_total}
use Rattle.std.proofs.lemmas.List.Sorted.{IsPermutation-map, IsPermutation-cons, IsPermutation-trans}
use Rattle.gix_base.specs.declared.hash.ObjectId.{ObjectId}
use Rattle.gix_revwalk.specs.Queue.{IsGreatest}
use Rattle.gix_describe.specs.declared.describe.key.Key.{Key}
use Rattle.gix_describe.specs.declared.describe.met.Met.{Met}
use Rattle.gix_describe.specs.declared.describe.queue.Place.{Place}
use Rattle.gix_describe.specs.Handing.{key_order}
use Rattle.gix_describe.specs.Queued.{entry_of}
use Rattle.gix_describe.proofs.Handing.{all_cons}

abbrev pub place_in_queue : Met → Place
place_in_queue m = record { number = m.number; spot = m.spot }

-- a commit enters
pub commit_in : (k : Key) (m : Met) (ps qs : List (Key × Place)) → k.id ≡ m.id → IsPermutation ((k, place_in_queue m) ∷ ps) qs → IsPermutation ((k, m) ∷ map entry_of ps) (map entry_of qs)
commit_in k m ps qs own perm =
    subst (λ (id : ObjectId). IsPermutation ((k, record { id = id; number = m.number; spot = m.spot }) ∷ map entry_of ps) (map entry_of qs)) own (IsPermutation-map entry_of ((k, place_in_queue m) ∷ ps) qs perm)

-- one after another
pub both_in : {X : Type 0} (a b : X) (xs ys zs : List X) → IsPermutation (a ∷ xs) ys → IsPermutation (b ∷ ys) zs → IsPermutation (b ∷ a ∷ xs) zs
both_in a b xs ys zs first second = IsPermutation-trans (b ∷ a ∷ xs) (b ∷ ys) zs (IsPermutation-cons b (a ∷ xs) ys first) second

-- no key comes before itself
not_before : (k : Key) → is_lt (key_order k k) ≡ false
not_before k = by (int_cmp k.time k.time) (nat_cmp k.rank k.rank) (slice_cmp nat_cmp k.id.0 k.id.0) (int_cmp_total.antisymm k.time k.time) (nat_cmp_total.antisymm k.rank k.rank) (nat_list_cmp_total.antisymm k.id.0 k.id.0)
  where
    by : (a b c : Ordering) → a ≡ ordering_reverse a → b ≡ ordering_reverse b → c ≡ ordering_reverse c → is_lt (ordering_then a (ordering_then b c)) ≡ false
    by Less b c e f g = absurd (let k : true ≡ false = ap is_lt e in cc)
    by Equal Less c e f g = absurd (let k : true ≡ false = ap is_lt f in cc)
    by Equal Equal Less e f g = absurd (let k : true ≡ false = ap is_lt g in cc)
    by Equal Equal Equal e f g = refl
    by Equal Equal Greater e f g = refl
    by Equal Greater c e f g = refl
    by Greater b c e f g = refl

-- one alone has the greatest key
pub alone_first : (k : Key) (p : Place) (ps : List (Key × Place)) → ps ≡ [] → IsGreatest key_order k (map entry_of ((k, p) ∷ ps))
alone_first k p ps none =
    subst (λ (l : List (Key × Place)). IsGreatest key_order k (map entry_of ((k, p) ∷ l))) (sym none) (all_cons (λ (q : Key × Met). is_lt (key_order k q.0) ≡ false) (entry_of (k, p)) [] (not_before k) (λ i d lt. absurd (omega arith)))

pub none_in : {X : Type 0} (xs : List X) → (length xs == 0) ≡ true → xs ≡ []
none_in [] e = refl
none_in (x ∷ xs) e = absurd (let n : length (x ∷ xs) ≡ 0 = grind arith in omega arith)

pub not_empty : {X : Type 0} (x : X) (xs : List X) → false ≡ (length (x ∷ xs) == 0)
not_empty x xs = grind arith
