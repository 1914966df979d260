-- Parts of an index that is not read whole (gitformat-pack, "Version 2 pack-*.idx files").
use Rattle.std.specs.Prelude.{ℕ, ◌+◌, ◌-◌, ◌*◌, ◌/◌, ◌<◌, List, length, take, drop}
use Rattle.gix_ids.specs.TableForm.{Fans, Rises, fan, fan_below}
use Rattle.gix_ids.specs.TableLookup.{IsAt, IsGap}
use Rattle.gix_ids.specs.declared.table.Table.{Table}
use Rattle.gix_base.specs.declared.hash.ObjectId.{ObjectId}
use Rattle.gix_pack.specs.IndexForm.{HasHeader, table_of}
use Rattle.gix_pack.specs.declared.part.Told.{Told}
use Rattle.gix_pack.specs.declared.part.Told.TheVariants.{At, Absent, Elsewhere}

-- The bytes s begin with the head of an index, whose fanout table does not fall.
pub record IsHead (s : List ℕ) : Type 0 where
  pub header : HasHeader s
  pub fans : (b : ℕ) → b < 256 → Fans s (table_of s) b

-- The ids of a part, which begin at its first byte. A part has no fanout table of its own.
abbrev pub part_of : List ℕ → Table
part_of ids = record { count = length ids / 20; fanout = 0; ids = 0 }

-- Each id of a part is greater than the one before it.
abbrev pub AreRising : List ℕ → Type 0
AreRising ids = (i : ℕ) → i + 1 < (part_of ids).count → Rises ids (part_of ids) i

-- What some ids in a row tell of an id: its position among them; or, if they rise, that it would be
-- between two of them, so that no list of rising ids with these in a row has it; or nothing.
abbrev pub IsTold : List ℕ → ObjectId → Told → Type 0
IsTold ids id (At k) = IsAt ids (part_of ids) id k
IsTold ids id Absent = AreRising ids → (k : ℕ) × (0 < k) × (k < (part_of ids).count) × IsGap ids (part_of ids) id k
IsTold ids id Elsewhere = Unit {0}

-- The part of the index s that has the ids whose first byte is byte, by the fanout table.
abbrev pub ids_with : List ℕ → ℕ → List ℕ
ids_with s byte =
    take (20 * (fan s (table_of s) byte - fan_below s (table_of s) byte)) (drop ((table_of s).ids + 20 * fan_below s (table_of s) byte) s)
