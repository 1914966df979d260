-- Numbers that digits write.
use Rattle.std.proofs.Common.{ℕ, ◌≡◌, ◌+◌, ◌-◌, ◌*◌, ◌≤◌, ◌<◌, List, [], ◌∷◌, length, get_or, arith, refl}
use Rattle.gix_date.specs.Numerals.{number_after}

-- more digits write no less
pub number_after-grows : (bs : List ℕ) (n : ℕ) → n ≤ number_after n bs
unfolding number_after
number_after-grows [] n = omega arith
number_after-grows (b ∷ bs) n = let h = number_after-grows bs (n * 10 + (b - 48)) in omega (arith, h)

-- a number that is too great stays so
pub number_after-first : (bs : List ℕ) (n : ℕ) → 1 ≤ length bs → n * 10 + (get_or bs 0 0 - 48) ≤ number_after n bs
unfolding number_after
number_after-first [] n h = absurd (omega arith)
number_after-first (b ∷ bs) n h = number_after-grows bs (n * 10 + (b - 48))

-- no digits write nothing
pub number_after-none : (bs : List ℕ) (n : ℕ) → length bs < 1 → number_after n bs ≡ n
unfolding number_after
number_after-none [] n h = refl
number_after-none (b ∷ bs) n h = absurd (omega arith)
