-- The bits of flags, one by one.
use Rattle.std.proofs.Common.{◌≡◌, ℕ, zero, suc, Bool, true, false, refl, ap, sym, ◌∙◌, ◌||◌, ◌&&◌, ◌==◌, ◌<◌, ◌*◌, max, min, arith}
use Rattle.std.specs.Int.{bit_at}
use Rattle.gix_merge_base.specs.Marks.{MarkSet, marks_of, joined, handed_on, noted}
use Rattle.std.specs.Int.Bits.{bit_and, bit_or}
use Rattle.std.proofs.lemmas.Nat.Bits.{bit_at_or, bit_at_and, bit_at-lt, and_pow}

or_of : (a b : ℕ) → a < 2 → b < 2 → (max a b == 1) ≡ ((a == 1) || (b == 1))
or_of zero zero k l = refl
or_of zero (suc zero) k l = refl
or_of (suc zero) zero k l = refl
or_of (suc zero) (suc zero) k l = refl
or_of (suc (suc a)) b k l = absurd (omega arith)
or_of a (suc (suc b)) k l = absurd (omega arith)

and_of : (a b : ℕ) → a < 2 → b < 2 → (min a b == 1) ≡ ((a == 1) && (b == 1))
and_of zero zero k l = refl
and_of zero (suc zero) k l = refl
and_of (suc zero) zero k l = refl
and_of (suc zero) (suc zero) k l = refl
and_of (suc (suc a)) b k l = absurd (omega arith)
and_of a (suc (suc b)) k l = absurd (omega arith)

-- a bit of `a | b` is one of a or of b
pub bit-or : (a b i : ℕ) → (bit_at (bit_or a b) i == 1) ≡ ((bit_at a i == 1) || (bit_at b i == 1))
bit-or a b i = ap (λ z. z == 1) (bit_at_or a b i) ∙ or_of (bit_at a i) (bit_at b i) (bit_at-lt a i) (bit_at-lt b i)

-- a bit of `a & b` is one of both
pub bit-and : (a b i : ℕ) → (bit_at (bit_and a b) i == 1) ≡ ((bit_at a i == 1) && (bit_at b i == 1))
bit-and a b i = ap (λ z. z == 1) (bit_at_and a b i) ∙ and_of (bit_at a i) (bit_at b i) (bit_at-lt a i) (bit_at-lt b i)

one_in : (b : ℕ) → b < 2 → (b * 1 == 1) ≡ (b == 1)
one_in zero l = refl
one_in (suc zero) l = refl
one_in (suc (suc b)) l = absurd (omega arith)

two_in : (b : ℕ) → b < 2 → (b * 2 == 2) ≡ (b == 1)
two_in zero l = refl
two_in (suc zero) l = refl
two_in (suc (suc b)) l = absurd (omega arith)

four_in : (b : ℕ) → b < 2 → (b * 4 == 4) ≡ (b == 1)
four_in zero l = refl
four_in (suc zero) l = refl
four_in (suc (suc b)) l = absurd (omega arith)

eight_in : (b : ℕ) → b < 2 → (b * 8 == 8) ≡ (b == 1)
eight_in zero l = refl
eight_in (suc zero) l = refl
eight_in (suc (suc b)) l = absurd (omega arith)

-- what a test of one mark answers
pub test-one : (x : ℕ) → (bit_and x 1 == 1) ≡ (bit_at x 0 == 1)
test-one x = ap (λ z. z == 1) (and_pow x 0) ∙ one_in (bit_at x 0) (bit_at-lt x 0)

pub test-two : (x : ℕ) → (bit_and x 2 == 2) ≡ (bit_at x 1 == 1)
test-two x = ap (λ z. z == 2) (and_pow x 1) ∙ two_in (bit_at x 1) (bit_at-lt x 1)

pub test-stale : (x : ℕ) → (bit_and x 4 == 4) ≡ (bit_at x 2 == 1)
test-stale x = ap (λ z. z == 4) (and_pow x 2) ∙ four_in (bit_at x 2) (bit_at-lt x 2)

pub test-result : (x : ℕ) → (bit_and x 8 == 8) ≡ (bit_at x 3 == 1)
test-result x = ap (λ z. z == 8) (and_pow x 3) ∙ eight_in (bit_at x 3) (bit_at-lt x 3)

-- four equal truth values
same_marks : (m n : MarkSet) → m.one ≡ n.one → m.two ≡ n.two → m.stale ≡ n.stale → m.result ≡ n.result → m ≡ n
same_marks m n a b c d =
    ap (λ z. record { one = z; two = m.two; stale = m.stale; result = m.result }) a
    ∙ ap (λ z. record { one = n.one; two = z; stale = m.stale; result = m.result }) b
    ∙ ap (λ z. record { one = n.one; two = n.two; stale = z; result = m.result }) c
    ∙ ap (λ z. record { one = n.one; two = n.two; stale = n.stale; result = z }) d

-- the marks of `7 & w | a`
pub marks-joined : (w a : ℕ) → marks_of (record { 0 = bit_or (bit_and 7 w) a }) ≡ joined (marks_of (record { 0 = w })) (marks_of (record { 0 = a }))
marks-joined w a = same_marks _ _
    (bit-or (bit_and 7 w) a 0 ∙ ap (λ z. z || (bit_at a 0 == 1)) (bit-and 7 w 0))
    (bit-or (bit_and 7 w) a 1 ∙ ap (λ z. z || (bit_at a 1 == 1)) (bit-and 7 w 1))
    (bit-or (bit_and 7 w) a 2 ∙ ap (λ z. z || (bit_at a 2 == 1)) (bit-and 7 w 2))
    (bit-or (bit_and 7 w) a 3 ∙ ap (λ z. z || (bit_at a 3 == 1)) (bit-and 7 w 3))

-- the marks of `7 & w | 4`, where both sides reach it
pub marks-staled : (w : ℕ) → ((marks_of (record { 0 = w })).one && (marks_of (record { 0 = w })).two) ≡ true → marks_of (record { 0 = bit_or (bit_and 7 w) 4 }) ≡ handed_on (marks_of (record { 0 = w }))
marks-staled w both = same_marks _ _
    (bit-or (bit_and 7 w) 4 0 ∙ or_false _ ∙ bit-and 7 w 0)
    (bit-or (bit_and 7 w) 4 1 ∙ or_false _ ∙ bit-and 7 w 1)
    (bit-or (bit_and 7 w) 4 2 ∙ or_true (bit_at (bit_and 7 w) 2 == 1) ∙ sym (ap (λ z. (bit_at w 2 == 1) || z) both ∙ or_true (bit_at w 2 == 1)))
    (bit-or (bit_and 7 w) 4 3 ∙ or_false _ ∙ bit-and 7 w 3)
  where
    or_false : (a : Bool) → (a || false) ≡ a
    or_false true = refl
    or_false false = refl

    or_true : (a : Bool) → (a || true) ≡ true
    or_true true = refl
    or_true false = refl

-- the marks of `8 | w`
pub marks-noted : (w : ℕ) → marks_of (record { 0 = bit_or 8 w }) ≡ noted (marks_of (record { 0 = w }))
marks-noted w = same_marks _ _ (bit-or 8 w 0) (bit-or 8 w 1) (bit-or 8 w 2) (bit-or 8 w 3)
