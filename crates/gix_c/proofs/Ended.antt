-- A list whose last item is replaced.
use Rattle.std.proofs.Common.{◌≡◌, ℕ, List, [], ◌∷◌, ◌++◌, refl, ap, ◌∙◌, length, slice_set, ◌-◌, arith}
use Rattle.std.proofs.lemmas.List.{set-append_right}

one-set : (ys : List ℕ) (v : ℕ) → length ys ≡ 1 → slice_set ys 0 v ≡ v ∷ []
one-set [] v long = cc
one-set (y ∷ []) v long = refl
one-set (y ∷ z ∷ ys) v long = cc

pub ended : (xs ys : List ℕ) (n v : ℕ) → length xs ≡ n → length ys ≡ 1 → slice_set (xs ++ ys) n v ≡ xs ++ v ∷ []
ended xs ys n v long one =
    let at : n - n ≡ 0 = omega arith in
    set-append_right xs ys n n v long (omega arith) ∙ ap (λ l. xs ++ l) (ap (λ i. slice_set ys i v) at ∙ one-set ys v one)
