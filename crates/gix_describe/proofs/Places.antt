-- Places in a list of distinct commits, and in what is left of it.
use Rattle.std.proofs.Common.{◌≡◌, ℕ, zero, suc, Bool, true, false, cond, refl, ap, sym, subst, ◌∙◌, List, [], ◌∷◌, ◌||◌, get_or, length, ◌≤◌, ◌<◌, ◌+◌, arith}
use Rattle.std.specs.List.{IsDistinct, AllByRecursion, filter}
use Rattle.std.proofs.lemmas.Map.Keys.{IsDistinct-tail}
use Rattle.gix_base.specs.declared.hash.ObjectId.{ObjectId}
use Rattle.gix_revwalk.specs.History.{same_id, is_one_of}
use Rattle.gix_revwalk.proofs.Ids.{same_id-laws, same_id-true, same_id-itself}
use Rattle.gix_revwalk.proofs.Members.{one_of-at, one_of-filter}
use Rattle.gix_describe.specs.Order.{place}
use Rattle.gix_describe.proofs.Early.{In}

other_id : (x c : ObjectId) (xs : List ObjectId) → AllByRecursion (λ y. same_id x y ≡ false) xs → In xs c → same_id c x ≡ false
other_id x c [] apart m = absurd (let f : false ≡ true = m in cc)
other_id x c (y ∷ xs) apart m = elim (same_id c y) as (λ b. same_id c y ≡ b → (b || is_one_of xs c) ≡ true → same_id c x ≡ false) [
  | true ↦ λ e f. ap (λ z. same_id z x) (same_id-true c y e) ∙ same_id-laws.symm y x ∙ apart.0
  | false ↦ λ e f. other_id x c xs apart.1 f
] refl m

-- one that is not the head
behind_head : (x : ObjectId) (xs : List ObjectId) (c : ObjectId) → IsDistinct same_id (x ∷ xs) → In xs c → place (x ∷ xs) c ≡ place xs c + 1
unfolding IsDistinct
behind_head x xs c once m = ap (λ b. cond b 0 (place xs c + 1)) (other_id x c xs once.0 m)

-- what a filter leaves keeps its order
pub filtered_rise : (p : ObjectId → Bool) (xs : List ObjectId) → IsDistinct same_id xs → (d : ObjectId) (i k : ℕ) → i ≤ k → k < length (filter p xs) → place xs (get_or (filter p xs) i d) ≤ place xs (get_or (filter p xs) k d)
filtered_rise p [] once d i k le below = absurd (omega arith)
filtered_rise p (x ∷ xs) once d i k le below = by (filtered_rise p xs (IsDistinct-tail same_id x xs once) d) (p x) refl i k le below
  where
    Rises : List ObjectId → List ObjectId → Type 0
    Rises ys l = (i k : ℕ) → i ≤ k → k < length l → place ys (get_or l i d) ≤ place ys (get_or l k d)

    later : Rises xs (filter p xs) → Rises (x ∷ xs) (filter p xs)
    later rest i k le below =
        let low : place xs (get_or (filter p xs) i d) ≤ place xs (get_or (filter p xs) k d) = rest i k le below in
        let a : place (x ∷ xs) (get_or (filter p xs) i d) ≡ place xs (get_or (filter p xs) i d) + 1 = behind_head x xs _ once (one_of-filter p xs _ (one_of-at (filter p xs) i d (omega arith))).0 in
        let b : place (x ∷ xs) (get_or (filter p xs) k d) ≡ place xs (get_or (filter p xs) k d) + 1 = behind_head x xs _ once (one_of-filter p xs _ (one_of-at (filter p xs) k d below)).0 in
        rw (a, b) (omega (arith, low))

    with_head : Rises xs (filter p xs) → Rises (x ∷ xs) (x ∷ filter p xs)
    with_head rest zero k le below = rw (ap (λ b. cond b 0 (place xs x + 1)) (same_id-itself x)) (omega arith)
    with_head rest (suc i) zero le below = absurd (omega arith)
    with_head rest (suc i) (suc k) le below = later rest i k (omega arith) (omega arith)

    by : Rises xs (filter p xs) → (b : Bool) → p x ≡ b → Rises (x ∷ xs) (filter p (x ∷ xs))
    by rest true e = subst (λ b. Rises (x ∷ xs) (cond b (x ∷ filter p xs) (filter p xs))) (sym e) (with_head rest)
    by rest false e = subst (λ b. Rises (x ∷ xs) (cond b (x ∷ filter p xs) (filter p xs))) (sym e) (later rest)
