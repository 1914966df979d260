-- The position of an id in a table.
use Rattle.std.specs.Prelude.{◌≡◌, ◌≢◌, ℕ, ◌+◌, ◌<◌, ◌≤◌, List}
use Rattle.std.specs.declared.cmp.Ordering.TheVariants.{Less}
use Rattle.gix_base.specs.declared.hash.ObjectId.{ObjectId}
use Rattle.gix_ids.specs.TableForm.{compare_ids, id_of, Rises}
use Rattle.gix_ids.specs.declared.table.Table.{Table}
use Rattle.gix_ids.specs.declared.lookup.Span.{Span}

module _ (s : List ℕ) (t : Table) where
  -- The id is stored at position k.
  pub record IsAt (id : ObjectId) (k : ℕ) : Type 0 where
    pub below : k < t.count
    pub same : id_of s t k ≡ id

  -- The id is stored at no position.
  abbrev pub IsAbsent : ObjectId → Type 0
  IsAbsent id = (k : ℕ) → k < t.count → id_of s t k ≢ id

  -- The id is stored at no position: the ids before position k are less, and those from k on are
  -- greater.
  pub record IsGap (id : ObjectId) (k : ℕ) : Type 0 where
    pub within : k ≤ t.count
    pub before : (j : ℕ) → j < k → compare_ids (id_of s t j) id ≡ Less
    pub behind : (j : ℕ) → k ≤ j → j < t.count → compare_ids id (id_of s t j) ≡ Less

  -- Each id of the span is greater than the one before it.
  abbrev pub RiseIn : Span → Type 0
  RiseIn span = (i : ℕ) → span.low ≤ i → i + 1 < span.high → Rises s t i

  -- The id is stored at position k of the span.
  pub record IsIn (span : Span) (id : ObjectId) (k : ℕ) : Type 0 where
    pub from : span.low ≤ k
    pub below : k < span.high
    pub same : id_of s t k ≡ id

  -- If the ids of the span rise, the ones before position k are less than id, and those from k on
  -- are greater.
  pub record IsGapIn (span : Span) (id : ObjectId) (k : ℕ) : Type 0 where
    pub from : span.low ≤ k
    pub within : k ≤ span.high
    pub before : RiseIn span → (j : ℕ) → span.low ≤ j → j < k → compare_ids (id_of s t j) id ≡ Less
    pub behind : RiseIn span → (j : ℕ) → k ≤ j → j < span.high → compare_ids id (id_of s t j) ≡ Less
