-- The ids of a table in order, and the place of an id among them.
use Rattle.std.specs.Prelude.{◌≡◌, ℕ, zero, suc, ◌+◌, ◌≤◌, List, [], ◌∷◌, length, take, drop}
use Rattle.std.specs.BTreeMap.Range.{IsLeBy}
use Rattle.std.specs.List.{AllByRecursion}
use Rattle.std.specs.declared.cmp.Ordering.TheVariants.{Less}
use Rattle.gix_base.specs.declared.hash.ObjectId.{ObjectId}
use Rattle.gix_ids.specs.TableForm.{compare_ids, id_of}
use Rattle.gix_ids.specs.declared.table.Table.{Table}

-- The n ids of the table t from position i on, each with what f gives for its position.
abbrev pub rows_from : {X : Type 0} → List ℕ → Table → (ℕ → X) → ℕ → ℕ → List (ObjectId × X)
rows_from s t f i zero = []
rows_from s t f i (suc n) = (id_of s t i, f i) ∷ rows_from s t f (i + 1) n

-- All ids of the table t, each with what f gives for its position.
abbrev pub rows_in : {X : Type 0} → List ℕ → Table → (ℕ → X) → List (ObjectId × X)
rows_in s t f = rows_from s t f 0 t.count

-- Position k is that of the first of ids that is not less than id. If each of ids is less, then k
-- is their number (gitformat-commit-graph, "OID Lookup").
pub record IsFirstFrom (ids : List ObjectId) (id : ObjectId) (k : ℕ) : Type 0 where
  pub within : k ≤ length ids
  pub before : AllByRecursion (λ x. compare_ids x id ≡ Less) (take k ids)
  pub from : AllByRecursion (λ x. IsLeBy compare_ids id x) (drop k ids)
