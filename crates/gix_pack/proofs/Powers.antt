-- Numbers of 7 bits a byte.
use Rattle.std.proofs.Common.{◌≡◌, ℕ, suc, ◌+◌, ◌*◌, ◌%◌, ◌^◌, ◌<◌, ◌≤◌, List, length, drop, get_or, refl, sym, ap, ◌∙◌, arith}
use Rattle.std.proofs.Math.Nat.{pow-suc, pow-le-pow_right}
use Rattle.std.proofs.Math.Seq.{drop-cons}
use Rattle.gix_pack.specs.PackNumbers.{low_first, high_after}

one-more : (n : ℕ) → n + 1 ≡ suc n
one-more n = omega arith

power-next : (n : ℕ) → 128 ^ (n + 1) ≡ 128 ^ n * 128
power-next n = ap (λ m. 128 ^ m) (one-more n) ∙ pow-suc 128 n

power-most : (n : ℕ) → n ≤ 8 → 128 ^ n ≤ 2 ^ 56
power-most n h =
    let positive : 0 < 128 = omega arith in
    let most : 128 ^ n ≤ 128 ^ 8 = pow-le-pow_right positive h in
    most

-- one byte more
pub below-next : (n v b : ℕ) → v < 128 ^ n → b < 128 → v * 128 + b < 128 ^ (n + 1)
below-next n v b h small = let e = power-next n in omega (arith, e, h, small)

pub below-most : (n v : ℕ) → v < 128 ^ n → n ≤ 8 → v < 2 ^ 56
below-most n v h few = let most = power-most n few in omega (arith, h, most)

pub below-nine : (n v : ℕ) → v < 128 ^ n → n ≤ 9 → v < 2 ^ 63
below-nine n v h few =
    let positive : 0 < 128 = omega arith in
    let most : 128 ^ n ≤ 128 ^ 9 = pow-le-pow_right positive few in
    let same : 128 ^ 9 ≡ 2 ^ 63 = refl in
    omega (arith, h, most, same)

pub high-next : (n v b : ℕ) → v + 3 ≤ 130 * 128 ^ n → b < 128 → (v + 1) * 128 + b + 3 ≤ 130 * 128 ^ (n + 1)
high-next n v b h small = let e = power-next n in omega (arith, e, h, small)

pub high-most : (n v : ℕ) → v + 3 ≤ 130 * 128 ^ n → n ≤ 7 → (v + 1) * 128 + 128 < 2 ^ 64
high-most n v h few =
    let positive : 0 < 128 = omega arith in
    let most : 128 ^ n ≤ 128 ^ 7 = pow-le-pow_right positive few in
    let same : 128 ^ 7 ≡ 2 ^ 49 = refl in
    omega (arith, h, most, same)

pub low-next : (bytes : List ℕ) (i : ℕ) → i < length bytes → low_first (drop i bytes) ≡ get_or bytes i 0 % 128 + 128 * low_first (drop (suc i) bytes)
unfolding low_first
low-next bytes i h = ap low_first (drop-cons bytes i 0 h)

pub high-step : (bytes : List ℕ) (i v b : ℕ) → i < length bytes → b ≡ get_or bytes i 0 % 128 → high_after ((v + 1) * 128 + b) (drop (i + 1) bytes) ≡ high_after v (drop i bytes)
unfolding high_after
high-step bytes i v b h is =
    ap (λ n. high_after ((v + 1) * 128 + n) (drop (i + 1) bytes)) is
    ∙ ap (λ n. high_after ((v + 1) * 128 + get_or bytes i 0 % 128) (drop n bytes)) (one-more i)
    ∙ ap (high_after v) (sym (drop-cons bytes i 0 h))
