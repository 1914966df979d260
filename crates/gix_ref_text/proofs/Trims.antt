-- White space at the end of a text.
use Rattle.std.proofs.Common.{◌≡◌, ℕ, List, [], ◌∷◌, ◌++◌, true, false, cond, ap}
use Rattle.gix_ref_text.specs.Loose.{is_blank, before_blanks, trimmed_end}

pub trimmed-blank : (xs : List ℕ) (b : ℕ) → is_blank b ≡ true → trimmed_end (xs ++ b ∷ []) ≡ trimmed_end xs
trimmed-blank [] b h = ap (λ t. cond t [] (b ∷ [])) h
trimmed-blank (x ∷ xs) b h = ap (λ t. before_blanks x t) (trimmed-blank xs b h)

pub trimmed-kept : (xs : List ℕ) (b : ℕ) → is_blank b ≡ false → trimmed_end (xs ++ b ∷ []) ≡ xs ++ b ∷ []
trimmed-kept [] b none = ap (λ t. cond t [] (b ∷ [])) none
trimmed-kept (x ∷ []) b none = ap (λ t. before_blanks x t) (trimmed-kept [] b none)
trimmed-kept (x ∷ y ∷ ys) b none = ap (λ t. before_blanks x t) (trimmed-kept (y ∷ ys) b none)
