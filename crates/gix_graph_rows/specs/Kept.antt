-- What is kept of a file is what the file has.
use Rattle.std.specs.Prelude.{ℕ, ◌+◌, ◌*◌, ◌<◌, ◌≤◌, List, length, slice_index_or, All}
use Rattle.std.specs.declared.vec.Vec.{Vec}
use Rattle.gix_base.specs.declared.hash.ObjectId.{ObjectId}
use Rattle.gix_ids.specs.TableLookup.{IsAt}
use Rattle.gix_ids.specs.declared.table.Table.{Table}
use Rattle.gix_pack.specs.declared.part.Told.{Told}
use Rattle.gix_pack.specs.declared.part.Told.TheVariants.{At, Absent, Elsewhere}
use Rattle.gix_files.specs.Known.{IsPart}
use Rattle.gix_graph_rows.specs.declared.blocks.Window.{Window}
use Rattle.gix_graph_rows.specs.declared.parts.Part.{Part}

-- The blocks of a window are those of the file s: each has 4096 bytes, and some that follow.
abbrev pub IsWindow : {A : Type 0} → List ℕ → Window A → Type 0
IsWindow {A} s w = (i : ℕ) (d : Vec ℕ A) → i < length w.blocks.items → IsPart s ((16 * w.number + i) * 4096) (slice_index_or w.blocks.items i d).items

-- The blocks of all windows are those of the file s.
abbrev pub AreBlocks : {A : Type 0} → List ℕ → List (Window A) → Type 0
AreBlocks s windows = All (IsWindow s) windows

-- The bytes are those of ids of the table t in the file s, from the one at position low on.
pub record AreIds (s : List ℕ) (t : Table) (low : ℕ) (bytes : List ℕ) : Type 0 where
  pub part : IsPart s (t.ids + 20 * low) bytes
  pub within : 20 * low + length bytes ≤ 20 * t.count

-- The parts have ids of the table t in the file s.
pub record AreParts {A : Type 0} (s : List ℕ) (t : Table) (parts : List (Part A)) : Type 0 where
  pub all : All (λ p. AreIds s t p.low p.ids.items) parts

-- If the answer names a position, the table t of the file s has the id there.
abbrev pub IsToldOf : List ℕ → Table → ObjectId → Told → Type 0
IsToldOf s t id (At k) = IsAt s t id k
IsToldOf s t id Absent = Unit {0}
IsToldOf s t id Elsewhere = Unit {0}
