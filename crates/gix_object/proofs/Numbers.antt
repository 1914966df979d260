-- Numbers that the digits at the front of a text write.
use Rattle.std.proofs.Common.{ℕ, ◌≡◌, ◌+◌, ◌-◌, ◌*◌, ◌≤◌, ◌<◌, List, [], ◌∷◌, length, get_or, drop, cond, true, false, arith, refl, ap}
use Rattle.std.specs.Char.{is_ascii_digit}
use Rattle.gix_object.specs.CommitTime.{number_after}

-- With more digits the number is not less.
pub number_after-grows : (bs : List ℕ) (n : ℕ) → n ≤ number_after n bs
unfolding number_after
number_after-grows [] n = omega arith
number_after-grows (b ∷ bs) n =
    elim (is_ascii_digit b) as (λ t. n ≤ cond t (number_after (n * 10 + (b - 48)) bs) n) [
      | true ↦ let h = number_after-grows bs (n * 10 + (b - 48)) in omega (arith, h)
      | false ↦ omega arith
    ]

-- The first byte is a digit.
pub number_after-digit : (bs : List ℕ) (n : ℕ) → 1 ≤ length bs → is_ascii_digit (get_or bs 0 0) ≡ true → number_after n bs ≡ number_after (n * 10 + (get_or bs 0 0 - 48)) (drop 1 bs)
unfolding number_after
number_after-digit [] n h is = absurd (omega arith)
number_after-digit (b ∷ bs) n h is = ap (λ t. cond t (number_after (n * 10 + (b - 48)) bs) n) is

-- The first byte is not a digit.
pub number_after-other : (bs : List ℕ) (n : ℕ) → 1 ≤ length bs → is_ascii_digit (get_or bs 0 0) ≡ false → number_after n bs ≡ n
unfolding number_after
number_after-other [] n h is = absurd (omega arith)
number_after-other (b ∷ bs) n h is = ap (λ t. cond t (number_after (n * 10 + (b - 48)) bs) n) is

-- The text is empty.
pub number_after-none : (bs : List ℕ) (n : ℕ) → length bs < 1 → number_after n bs ≡ n
unfolding number_after
number_after-none [] n h = refl
number_after-none (b ∷ bs) n h = absurd (omega arith)
