-- The objects of an index.
use Rattle.std.specs.Prelude.{if◌then◌else◌}
use Rattle.std.proofs.lemmas.Bool.{cases_lt}
use Rattle.std.proofs.lemmas.Bool.Decides.{nat_tests}
use Rattle.std.proofs.Common.{◌≡◌, ℕ, ◌-◌, ◌^◌, ◌<◌, ◌≤◌, inl, inr, nat_lt, true, false, List, length, map, slice_get, Some, None, sym, ap, ◌∙◌, subst, arith}
use Rattle.std.specs.Option.{option_map}
use Rattle.std.specs.Map.{lookup}
use Rattle.std.specs.List.Sorted.{IsStrictlySortedBy}
use Rattle.gix_base.specs.declared.hash.ObjectId.{ObjectId}
use Rattle.gix_revwalk.specs.History.{same_id}
use Rattle.gix_ids.specs.TableForm.{compare_ids, id_of, IsSorted}
use Rattle.gix_ids.specs.TableLookup.{IsAt, IsAbsent, IsGap}
use Rattle.gix_ids.specs.TableIds.{rows_in, IsFirstFrom}
use Rattle.gix_ids.specs.declared.table.Table.{Table}
use Rattle.gix_ids.proofs.Rows.{rows-has, rows-lacks, rows-length, rows-id, rows-past, rows-rise, first-at, first-gap}
use Rattle.gix_pack.specs.IndexForm.{table_of, count_of, offset_at, offset_said, objects_in}
use Rattle.gix_pack.specs.declared.part.Offset.{Offset}
use Rattle.gix_pack.specs.declared.part.Offset.TheVariants.{Small, Large}
use Rattle.gix_pack.specs.PackIds.{ids_in}

module _ (s : List ℕ) (l : Table) (laid : l ≡ table_of s) where
  pub below-count : (k : ℕ) → k < l.count → k < count_of s
  unfolding table_of
  below-count k h = let e : l.count ≡ count_of s = ap (λ (t : Table). t.count) laid in omega (arith, e, h)

  -- the objects, by the table that was found
  objects-are : rows_in s l (offset_at s) ≡ objects_in s
  unfolding objects_in
  objects-are = ap (λ (t : Table). rows_in s t (offset_at s)) laid

  pub objects-length : length (objects_in s) ≡ l.count
  objects-length = sym (ap length objects-are) ∙ rows-length s l (offset_at s)

  pub objects-id : (k : ℕ) → k < l.count → option_map (λ e. e.0) (slice_get (objects_in s) k) ≡ Some (id_of s l k)
  objects-id k h = sym (ap (λ (o : List (ObjectId × ℕ)). option_map (λ e. e.0) (slice_get o k)) objects-are) ∙ rows-id s l (offset_at s) k h

  pub objects-past : (k : ℕ) → l.count ≤ k → slice_get (objects_in s) k ≡ None
  objects-past k h = sym (ap (λ (o : List (ObjectId × ℕ)). slice_get o k) objects-are) ∙ rows-past s l (offset_at s) k h

  pub objects-lacks : (id : ObjectId) → IsAbsent s l id → lookup (same_id id) (objects_in s) ≡ None
  objects-lacks id nowhere = sym (ap (lookup (same_id id)) objects-are) ∙ rows-lacks s l (offset_at s) id nowhere

  module _ (sorted : IsSorted s l) where
    pub objects-has : (id : ObjectId) (k : ℕ) → IsAt s l id k → lookup (same_id id) (objects_in s) ≡ Some (offset_at s k)
    objects-has id k is = sym (ap (lookup (same_id id)) objects-are) ∙ rows-has s l (offset_at s) sorted id k is

    pub ids-rise : IsStrictlySortedBy compare_ids (ids_in s)
    ids-rise =
        let P : List (ObjectId × ℕ) → Type 0 = λ o. IsStrictlySortedBy compare_ids (map (λ (e : ObjectId × ℕ). e.0) o) in
        subst P objects-are (rows-rise s l (offset_at s) sorted)

    pub ids-first-at : (id : ObjectId) (k : ℕ) → IsAt s l id k → IsFirstFrom (ids_in s) id k
    ids-first-at id k at =
        let P : List (ObjectId × ℕ) → Type 0 = λ o. IsFirstFrom (map (λ (e : ObjectId × ℕ). e.0) o) id k in
        subst P objects-are (first-at s l (offset_at s) sorted id k at)

    pub ids-first-gap : (id : ObjectId) (k : ℕ) → IsGap s l id k → IsFirstFrom (ids_in s) id k
    ids-first-gap id k gap =
        let P : List (ObjectId × ℕ) → Type 0 = λ o. IsFirstFrom (map (λ (e : ObjectId × ℕ). e.0) o) id k in
        subst P objects-are (first-gap s l (offset_at s) sorted id k gap)

abbrev entry-in : Offset → ℕ
entry-in (Small n) = n
entry-in (Large n) = n

-- a number that names an offset of 8 bytes has its highest bit set
pub large-said : (n entry : ℕ) → offset_said n ≡ Large entry → (2 ^ 31 ≤ n) × (entry ≡ n - 2 ^ 31)
unfolding offset_said
large-said n entry is =
    elim (cases_lt n (2 ^ 31)) [
      | inl low ↦
          let e : nat_lt n (2 ^ 31) ≡ true = grind (arith, nat_tests) in
          let wrong : Small n ≡ Large entry = sym (ap (λ b. if b then Small n else Large (n - 2 ^ 31)) e) ∙ is in
          cc
      | inr high ↦
          let e : nat_lt n (2 ^ 31) ≡ false = grind (arith, nat_tests) in
          let same : Large (n - 2 ^ 31) ≡ Large entry = sym (ap (λ b. if b then Small n else Large (n - 2 ^ 31)) e) ∙ is in
          (high, sym (ap entry-in same))
    ]
