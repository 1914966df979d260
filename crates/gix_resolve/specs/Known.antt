-- The names and ids by which revisions are resolved.
use Rattle.std.specs.Prelude.{ℕ, List, Option}
use Rattle.std.specs.BTreeMap.{get_by}
use Rattle.std.specs.Cmp.Lexicographic.{slice_cmp}
use Rattle.std.specs.Ordering.{nat_cmp}
use Rattle.gix_revision.specs.Types.ObjectId.{ObjectId}
use Rattle.gix_resolve.specs.declared.table.Table.{Table}

-- The id of each ref by the bytes of its name, and the ids that an abbreviated object name can
-- stand for.
pub record Known : Type 0 where
  pub name_at : List ℕ → Option ObjectId
  pub ids : List ObjectId

-- The names and ids that a table t has. The function ids gives the ids of its second part.
unfoldable pub known_by : {A I : Type 0} → (ids : I → List ObjectId) → Table A I → Known
known_by ids t = record { name_at = λ name. get_by (λ k. slice_cmp nat_cmp name k.items) t.names; ids = ids t.ids }
