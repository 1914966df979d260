-- Bytes that are a part of a file.
use Rattle.std.proofs.Common.{◌≡◌, ℕ, zero, suc, ◌+◌, ◌-◌, ◌≤◌, List, [], ◌∷◌, ◌++◌, length, take, drop, refl, sym, ap, ◌∙◌, arith}
use Rattle.std.proofs.lemmas.List.{length-take-le, take-take, drop-drop, drop-take, length-append, length-drop}
use Rattle.gix_files.specs.Known.{IsPart}

abbrev none : List ℕ
none = []

take-empty : (n : ℕ) → take n none ≡ none
take-empty zero = refl
take-empty (suc n) = refl

sum-suc : (m n : ℕ) → suc m + n ≡ suc (m + n)
sum-suc m n = omega arith

take-two : (m n : ℕ) (xs : List ℕ) → take (m + n) xs ≡ take m xs ++ take n (drop m xs)
take-two zero n xs = ap (λ k. take k xs) (let e : 0 + n ≡ n = omega arith in e)
take-two (suc m) n [] = take-empty (suc m + n) ∙ sym (take-empty n)
take-two (suc m) n (x ∷ xs) = ap (λ k. take k (x ∷ xs)) (sum-suc m n) ∙ ap (λ l. x ∷ l) (take-two m n xs)

pub take-joined : (n : ℕ) (p ys : List ℕ) → take (length p + n) (p ++ ys) ≡ p ++ take n ys
take-joined n [] ys = ap (λ k. take k ys) (let e : 0 + n ≡ n = omega arith in e)
take-joined n (x ∷ p) ys = ap (λ k. take k (x ∷ (p ++ ys))) (sum-suc (length p) n) ∙ ap (λ l. x ∷ l) (take-joined n p ys)

-- bytes and those that follow them
pub part-join : (s : List ℕ) (at : ℕ) (xs ys : List ℕ) → IsPart s at xs → IsPart s (at + length xs) ys → IsPart s at (xs ++ ys)
part-join s at xs ys p q =
    rw (length-append xs ys, take-two (length xs) (length ys) (drop at s), p, drop-drop (length xs) at s, q) refl

-- the first a bytes of a buffer, then the first n of what was read behind them
pub part-more : (s xs ys zs : List ℕ) (at a n : ℕ) → a ≤ length xs → n ≤ length ys → take (a + length ys) zs ≡ take a xs ++ ys
    → IsPart s at (take a xs) → IsPart s (at + a) (take n ys) → IsPart s at (take (a + n) zs)
part-more s xs ys zs at a n small few e p q =
    let long = length-take-le a xs small in
    let same : take (a + n) zs ≡ take a xs ++ take n ys =
    sym (take-take (a + n) (a + length ys) zs (omega arith)) ∙ ap (take (a + n)) e
    ∙ ap (λ k. take (k + n) (take a xs ++ ys)) (sym long) ∙ take-joined n (take a xs) ys in
    rw same (part-join s at (take a xs) (take n ys) p (rw long q))

-- the first bytes of some
pub part_take : (s xs : List ℕ) (at n : ℕ) → n ≤ length xs → IsPart s at xs → IsPart s at (take n xs)
part_take s xs at n small p =
    ap (λ k. take k (drop at s)) (length-take-le n xs small) ∙ sym (take-take n (length xs) (drop at s) small) ∙ ap (take n) p

-- the bytes behind the first ones
pub part_drop : (s xs : List ℕ) (at n : ℕ) → n ≤ length xs → IsPart s at xs → IsPart s (at + n) (drop n xs)
part_drop s xs at n small p =
    ap (λ k. take k (drop (at + n) s)) (length-drop n xs) ∙ ap (take (length xs - n)) (sym (drop-drop n at s))
    ∙ sym (drop-take n (length xs - n) (drop at s)) ∙ ap (λ k. drop n (take k (drop at s))) (let e : n + (length xs - n) ≡ length xs = omega arith in e)
    ∙ ap (drop n) p

-- some bytes of those that are known
pub piece : (s xs : List ℕ) (at j n : ℕ) → j + n ≤ length xs → IsPart s at xs → take n (drop (at + j) s) ≡ take n (drop j xs)
piece s xs at j n h p =
    let long : n ≤ length (drop j xs) = omega (arith, length-drop j xs) in
    ap (λ k. take k (drop (at + j) s)) (sym (length-take-le n (drop j xs) long)) ∙ part_take s (drop j xs) (at + j) n long (part_drop s xs at j (omega arith) p)
