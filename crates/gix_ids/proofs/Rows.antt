-- The ids of a table in order, each with what stands for its position.
use Rattle.std.specs.Prelude.{MatchOption}
use Rattle.std.proofs.Common.{◌≡◌, ◌≢◌, ℕ, zero, suc, ◌+◌, ◌<◌, ◌≤◌, inl, inr, List, length, map, take, drop, slice_get, Option, Some, None, is_some, true, false, refl, sym, ap, ◌∙◌, subst, arith}
use Rattle.std.proofs.lemmas.Bool.{cases_eq, false_from_ne_true}
use Rattle.std.proofs.lemmas.Option.{slice_get_past}
use Rattle.std.specs.Option.{option_map}
use Rattle.std.specs.Map.{lookup}
use Rattle.std.specs.BTreeMap.Range.{IsLeBy}
use Rattle.std.specs.List.{AllByRecursion}
use Rattle.std.specs.List.Sorted.{IsStrictlySortedBy}
use Rattle.std.specs.Ordering.{is_gt}
use Rattle.std.specs.declared.cmp.Ordering.TheVariants.{Less}
use Rattle.gix_base.specs.declared.hash.ObjectId.{ObjectId}
use Rattle.gix_revwalk.specs.History.{same_id}
use Rattle.gix_revwalk.proofs.Ids.{same_id-true, same_id-itself}
use Rattle.gix_ids.specs.TableForm.{compare_ids, id_of, IsSorted}
use Rattle.gix_ids.specs.TableLookup.{IsAt, IsAbsent, IsGap}
use Rattle.gix_ids.specs.TableIds.{rows_from, rows_in, IsFirstFrom}
use Rattle.gix_ids.specs.declared.table.Table.{Table}
use Rattle.gix_ids.proofs.Order.{alone, itself, less-all}

other : (a b : ObjectId) → (b ≢ a) → same_id a b ≡ false
other a b ne = false_from_ne_true (same_id a b) (λ e. ne (sym (same_id-true a b e)))

module _ {X : Type 0} (s : List ℕ) (t : Table) (f : ℕ → X) where
  -- ---- look-ups

  absent-from : (id : ObjectId) (i n : ℕ) → ((k : ℕ) → i ≤ k → k < i + n → id_of s t k ≢ id) → lookup (same_id id) (rows_from s t f i n) ≡ None
  absent-from id i zero nowhere = refl
  absent-from id i (suc n) nowhere =
      rw (other id (id_of s t i) (nowhere i (omega arith) (omega arith))) (absent-from id (i + 1) n (λ k a b. nowhere k (omega arith) (omega arith)))

  found-from : (id : ObjectId) (i n k : ℕ) → i ≤ k → k < i + n → id_of s t k ≡ id → ((j : ℕ) → i ≤ j → j < i + n → id_of s t j ≡ id → j ≡ k) → lookup (same_id id) (rows_from s t f i n) ≡ Some (f k)
  found-from id i zero k a b is one = absurd (omega arith)
  found-from id i (suc n) k a b is one =
      elim (cases_eq i k) [
        | inl same ↦
            let e : same_id id (id_of s t i) ≡ true = ap (same_id id) (ap (id_of s t) same ∙ is) ∙ same_id-itself id in
            rw e (ap (λ j. Some (f j)) same)
        | inr ne ↦
            let e : same_id id (id_of s t i) ≡ false = other id (id_of s t i) (λ q. ne (one i (omega arith) (omega arith) q)) in
            rw e (found-from id (i + 1) n k (omega arith) (omega arith) is (λ j c d q. one j (omega arith) (omega arith) q))
      ]

  pub rows-lacks : (id : ObjectId) → IsAbsent s t id → lookup (same_id id) (rows_in s t f) ≡ None
  rows-lacks id nowhere = absent-from id 0 t.count (λ k a b. nowhere k (omega arith))

  -- ---- by position

  length-rows : (i n : ℕ) → length (rows_from s t f i n) ≡ n
  length-rows i zero = refl
  length-rows i (suc n) = ap suc (length-rows (i + 1) n)

  nth : (i n k : ℕ) → k < n → slice_get (rows_from s t f i n) k ≡ Some (id_of s t (i + k), f (i + k))
  nth i zero k h = absurd (omega arith)
  nth i (suc n) zero h = ap (λ p. Some (id_of s t p, f p)) (let e : i ≡ i + 0 = omega arith in e)
  nth i (suc n) (suc k) h = nth (i + 1) n k (omega arith) ∙ ap (λ p. Some (id_of s t p, f p)) (let e : i + 1 + k ≡ i + suc k = omega arith in e)

  pub rows-length : length (rows_in s t f) ≡ t.count
  rows-length = length-rows 0 t.count

  pub rows-id : (k : ℕ) → k < t.count → option_map (λ e. e.0) (slice_get (rows_in s t f) k) ≡ Some (id_of s t k)
  rows-id k h =
      let e : 0 + k ≡ k = omega arith in
      let at : slice_get (rows_in s t f) k ≡ Some (id_of s t k, f k) = nth 0 t.count k h ∙ ap (λ p. Some (id_of s t p, f p)) e in
      ap (option_map (λ (e : ObjectId × X). e.0)) at

  pub rows-past : (k : ℕ) → t.count ≤ k → slice_get (rows_in s t f) k ≡ None
  rows-past k h = slice_get_past (rows_in s t f) k (rw rows-length h)

  -- ---- in order

  -- the ids of n rows from position i on
  abbrev ids-from : ℕ → ℕ → List ObjectId
  ids-from i n = map (λ (e : ObjectId × X). e.0) (rows_from s t f i n)

  length-ids : (i n : ℕ) → length (ids-from i n) ≡ n
  length-ids i zero = refl
  length-ids i (suc n) = ap suc (length-ids (i + 1) n)

  all-before : (P : ObjectId → Type 0) (i n k : ℕ) → ((j : ℕ) → i ≤ j → j < i + k → P (id_of s t j)) → AllByRecursion P (take k (ids-from i n))
  all-before P i n zero each = tt
  all-before P i zero (suc k) each = tt
  all-before P i (suc n) (suc k) each = (each i (omega arith) (omega arith), all-before P (i + 1) n k (λ j a b. each j (omega arith) (omega arith)))

  all-from : (P : ObjectId → Type 0) (i n k : ℕ) → ((j : ℕ) → i + k ≤ j → j < i + n → P (id_of s t j)) → AllByRecursion P (drop k (ids-from i n))
  all-from P i zero zero each = tt
  all-from P i zero (suc k) each = tt
  all-from P i (suc n) zero each = (each i (omega arith) (omega arith), all-from P (i + 1) n zero (λ j a b. each j (omega arith) (omega arith)))
  all-from P i (suc n) (suc k) each = all-from P (i + 1) n k (λ j a b. each j (omega arith) (omega arith))

  module _ (sorted : IsSorted s t) where
    pub rows-has : (id : ObjectId) (k : ℕ) → IsAt s t id k → lookup (same_id id) (rows_in s t f) ≡ Some (f k)
    rows-has id k is =
        found-from id 0 t.count k (omega arith) (let h = is.below in omega arith) is.same
        (λ j a b q. alone s t sorted.rises j k (omega arith) is.below (q ∙ sym is.same))

    -- an id is found exactly if the rows have it
    pub rows-contains : (id : ObjectId) (o : Option ℕ) → MatchOption o (IsAbsent s t id) (IsAt s t id) → is_some o ≡ is_some (lookup (same_id id) (rows_in s t f))
    rows-contains id None nowhere = ap is_some (sym (rows-lacks id nowhere))
    rows-contains id (Some k) is = ap is_some (sym (rows-has id k is))

    rise-from : (i n : ℕ) → i + n ≤ t.count → IsStrictlySortedBy compare_ids (ids-from i n)
    unfolding IsStrictlySortedBy
    rise-from i zero h = tt
    rise-from i (suc n) h = (
      all-from (λ y. compare_ids (id_of s t i) y ≡ Less) (i + 1) n 0 (λ j a b. less-all s t sorted.rises i j (omega arith) (omega arith)),
      rise-from (i + 1) n (omega arith),
    )

    pub rows-rise : IsStrictlySortedBy compare_ids (map (λ (e : ObjectId × X). e.0) (rows_in s t f))
    rows-rise = rise-from 0 t.count (omega arith)

    first-of-all : (id : ObjectId) (k : ℕ) → k ≤ t.count → ((j : ℕ) → j < k → compare_ids (id_of s t j) id ≡ Less) → ((j : ℕ) → k ≤ j → j < t.count → IsLeBy compare_ids id (id_of s t j))
        → IsFirstFrom (map (λ (e : ObjectId × X). e.0) (rows_in s t f)) id k
    first-of-all id k h before from =
        let long = length-ids 0 t.count in
        record {
          within = omega arith;
          before = all-before (λ x. compare_ids x id ≡ Less) 0 t.count k (λ j a b. before j (omega arith));
          from = all-from (λ x. IsLeBy compare_ids id x) 0 t.count k (λ j a b. from j (omega arith) (omega arith));
        }

    -- the position of an id is that of the first from it on
    pub first-at : (id : ObjectId) (k : ℕ) → IsAt s t id k → IsFirstFrom (map (λ (e : ObjectId × X). e.0) (rows_in s t f)) id k
    first-at id k at =
        let h = at.below in
        let here : IsLeBy compare_ids id (id_of s t k) = ap is_gt (ap (compare_ids id) at.same ∙ itself id) in
        first-of-all id k (omega arith)
        (λ j b. ap (compare_ids (id_of s t j)) (sym at.same) ∙ less-all s t sorted.rises j k b h)
        (λ j a b. elim (cases_eq k j) [
          | inl same ↦ let P : ℕ → Type 0 = λ i. IsLeBy compare_ids id (id_of s t i) in subst P same here
          | inr ne ↦ ap is_gt (ap (λ x. compare_ids x (id_of s t j)) (sym at.same) ∙ less-all s t sorted.rises k j (omega arith) b)
        ])

    -- so is the position before which it would be stored
    pub first-gap : (id : ObjectId) (k : ℕ) → IsGap s t id k → IsFirstFrom (map (λ (e : ObjectId × X). e.0) (rows_in s t f)) id k
    first-gap id k gap = first-of-all id k gap.within gap.before (λ j a b. ap is_gt (gap.behind j a b))
