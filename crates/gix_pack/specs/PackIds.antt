-- The ids of an index (gitformat-pack, "A table of sorted object names").
use Rattle.std.specs.Prelude.{ℕ, List, map}
use Rattle.gix_base.specs.declared.hash.ObjectId.{ObjectId}
use Rattle.gix_pack.specs.IndexForm.{objects_in}

-- The ids of the objects of the index s, in the order of their positions.
abbrev pub ids_in : List ℕ → List ObjectId
ids_in s = map (λ (e : ObjectId × ℕ). e.0) (objects_in s)
