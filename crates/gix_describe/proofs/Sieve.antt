-- Bits of ids that are set one after another.
use Rattle.std.proofs.Common.{◌≡◌, ◌==◌, ◌<◌, ◌%◌, ℕ, true, false, refl, ap, sym, subst, ◌∙◌, List, ◌∷◌, ◌||◌, ◌⊎◌, inl, inr, length, set, slice_index}
use Rattle.std.specs.Int.{bit_at}
use Rattle.std.proofs.lemmas.Bool.{cases_eq}
use Rattle.std.proofs.lemmas.List.{get_or-set_same, get_or-set_other}
use Rattle.gix_base.specs.declared.hash.ObjectId.{ObjectId}
use Rattle.gix_revwalk.specs.History.{same_id, is_one_of}
use Rattle.gix_revwalk.proofs.Ids.{same_id-true}
use Rattle.gix_describe.specs.Described.{Names}
use Rattle.gix_describe.specs.Sieve.{bit_in}
use Rattle.gix_describe.specs.Trace.{is_named}

-- another word stands at a place
module _ (words : List ℕ) (at word : ℕ) (within : at < length words) where
  pub others_stay : ((i : ℕ) → bit_at (slice_index words at) i ≡ 1 → bit_at word i ≡ 1) → (c : ObjectId) → bit_in words c ≡ 1 → bit_in (set words at word) c ≡ 1
  others_stay more c has = by (slice_index c.0 19 % 64) (slice_index c.0 18 % 64) (cases_eq (slice_index c.0 19 % 64) at) has
    where
      by : (k j : ℕ) → (k ≡ at) ⊎ (k ≡ at → ⊥) → bit_at (slice_index words k) j ≡ 1 → bit_at (slice_index (set words at word) k) j ≡ 1
      by k j (inl is) has = ap (λ z. bit_at (slice_index (set words at word) z) j) is ∙ ap (λ n. bit_at n j) (get_or-set_same words at word 0 within) ∙ more j (subst (λ z. bit_at (slice_index words z) j ≡ 1) is has)
      by k j (inr other) has = ap (λ n. bit_at n j) (get_or-set_other words at k word 0 other) ∙ has

  pub own_is_set : (c : ObjectId) → at ≡ slice_index c.0 19 % 64 → bit_at word (slice_index c.0 18 % 64) ≡ 1 → bit_in (set words at word) c ≡ 1
  own_is_set c is has =
      ap (λ z. bit_at (slice_index (set words at word) z) (slice_index c.0 18 % 64)) (sym is) ∙ ap (λ n. bit_at n (slice_index c.0 18 % 64)) (get_or-set_same words at word 0 within) ∙ has

-- of the names that are still to come one is let pass
pub one_less : (words more : List ℕ) (id c : ObjectId) (left rest : List ObjectId) → left ≡ id ∷ rest → bit_in more id ≡ 1 → (bit_in words c ≡ 1 → bit_in more c ≡ 1)
    → (bit_in words c ≡ 1) ⊎ (is_one_of left c ≡ true) → (bit_in more c ≡ 1) ⊎ (is_one_of rest c ≡ true)
one_less words more id c left rest is own others (inl has) = inl (others has)
one_less words more id c left rest is own others (inr comes) = elim (same_id c id) as (λ b. same_id c id ≡ b → (b || is_one_of rest c) ≡ true → (bit_in more c ≡ 1) ⊎ (is_one_of rest c ≡ true)) [
  | true ↦ λ e _. inl (subst (λ z. bit_in more z ≡ 1) (sym (same_id-true c id e)) own)
  | false ↦ λ e k. inr k
] refl (ap (λ l. is_one_of l c) (sym is) ∙ comes)

-- what does not pass has no name
pub kept_back : (names : Names) (c : ObjectId) (n : ℕ) → (is_named names c ≡ true → n ≡ 1) → (n == 1) ≡ false → false ≡ is_named names c
kept_back names c n passes kept = elim (is_named names c) as (λ b. is_named names c ≡ b → false ≡ b) [
  | true ↦ λ e. absurd (let yes : (n == 1) ≡ true = ap (λ k. k == 1) (passes e) in let f : true ≡ false = sym yes ∙ kept in cc)
  | false ↦ λ e. refl
] refl
