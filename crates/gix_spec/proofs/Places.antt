-- The first and the last place that pass a test.
use Rattle.std.proofs.Common.{◌≡◌, ℕ, zero, suc, ◌+◌, ◌<◌, ◌≤◌, Bool, true, false, Some, None, if◌then◌else◌, refl, subst, arith}
use Rattle.std.specs.Prelude.{nat_lt}
use Rattle.std.proofs.lemmas.Bool.{ltb-true, ltb-false}
use Rattle.gix_spec.specs.Marks.{least_from, greatest_below}

-- of the n places from k on m is the first that passes, or the one behind them where none does
pub record IsLeast (test : ℕ → Bool) (n k m : ℕ) : Type 0 where
  pub low : k ≤ m
  pub high : m ≤ k + n
  pub none : (j : ℕ) → k ≤ j → j < m → test j ≡ false
  pub found : m < k + n → test m ≡ true

pub not_both : (b : Bool) → b ≡ true → b ≡ false → ⊥
not_both b h k = cc

one_more : (test : ℕ → Bool) (n k m : ℕ) (b : Bool) → test k ≡ b → IsLeast test (suc n) k m → (IsLeast test n (k + 1) m → least_from test n (k + 1) ≡ m) →
    (if b then k else least_from test n (k + 1)) ≡ m
one_more test n k m true e h more =
    let here : k < m → ⊥ = λ later. not_both (test k) e (h.none k (omega arith) later) in omega (arith, h.low)
one_more test n k m false e h more =
    let here : k ≡ m → ⊥ = λ same. not_both (test m) (h.found (omega arith)) (subst (λ j. test j ≡ false) same e) in
    more (record { low = omega (arith, h.low); high = omega (arith, h.high); none = λ j low before. h.none j (omega arith) before; found = λ within. h.found (omega arith) })

pub least_from-is : (test : ℕ → Bool) (n k m : ℕ) → IsLeast test n k m → least_from test n k ≡ m
least_from-is test zero k m h = omega (arith, h.low, h.high)
least_from-is test (suc n) k m h = one_more test n k m (test k) refl h (least_from-is test n (k + 1) m)

-- and the least of the n places is such a one
none_from : (test : ℕ → Bool) (k j m : ℕ) (b : Bool) → nat_lt k j ≡ b → test k ≡ false → ((i : ℕ) → k + 1 ≤ i → i < m → test i ≡ false) → k ≤ j → j < m → test j ≡ false
none_from test k j m true e h more low before = more j (omega (arith, ltb-true k j e)) before
none_from test k j m false e h more low before =
    let same : k ≡ j = omega (arith, ltb-false k j e, low) in subst (λ i. test i ≡ false) same h

least_by : (test : ℕ → Bool) (n k : ℕ) (b : Bool) → test k ≡ b → IsLeast test n (k + 1) (least_from test n (k + 1)) → IsLeast test (suc n) k (if b then k else least_from test n (k + 1))
least_by test n k true e h = record { low = omega arith; high = omega arith; none = λ j low before. absurd (omega (arith, low, before)); found = λ within. e }
least_by test n k false e h = record {
  low = omega (arith, h.low);
  high = omega (arith, h.high);
  none = λ j low before. none_from test k j (least_from test n (k + 1)) (nat_lt k j) refl e h.none low before;
  found = λ within. h.found (omega (arith, within));
}

pub least_from-least : (test : ℕ → Bool) (n k : ℕ) → IsLeast test n k (least_from test n k)
least_from-least test zero k = record { low = omega arith; high = omega arith; none = λ j low before. absurd (omega (arith, low, before)); found = λ within. absurd (omega (arith, within)) }
least_from-least test (suc n) k = least_by test n k (test k) refl (least_from-least test n (k + 1))

last_or_less : (test : ℕ → Bool) (n m : ℕ) (b : Bool) → test n ≡ b → m < suc n → test m ≡ true → ((j : ℕ) → m < j → j < suc n → test j ≡ false) →
    (m < n → greatest_below test n ≡ Some m) → (if b then Some n else greatest_below test n) ≡ Some m
last_or_less test n m true e h f none more =
    let here : m < n → ⊥ = λ less. not_both (test n) e (none n less (omega arith)) in
    let same : n ≡ m = omega arith in rw same refl
last_or_less test n m false e h f none more =
    let here : m ≡ n → ⊥ = λ same. not_both (test n) (subst (λ j. test j ≡ true) same f) e in more (omega arith)

-- m is the last place below n that passes
pub greatest_below-is : (test : ℕ → Bool) (n m : ℕ) → m < n → test m ≡ true → ((j : ℕ) → m < j → j < n → test j ≡ false) → greatest_below test n ≡ Some m
greatest_below-is test zero m h f none = absurd (omega arith)
greatest_below-is test (suc n) m h f none =
    last_or_less test n m (test n) refl h f none (λ less. greatest_below-is test n m less f (λ j low high. none j low (omega arith)))

-- or none is
pub greatest_below-none : (test : ℕ → Bool) (n : ℕ) → ((j : ℕ) → j < n → test j ≡ false) → greatest_below test n ≡ None
greatest_below-none test zero none = refl
greatest_below-none test (suc n) none = rw (none n (omega arith)) (greatest_below-none test n (λ j high. none j (omega arith)))
