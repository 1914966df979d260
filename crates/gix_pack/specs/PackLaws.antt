-- Laws of the definitions.
use Rattle.std.specs.Prelude.{◌≡◌, ◌≢◌, ◌+◌, ◌<◌, ◌≤◌, ℕ, List, length, slice_index, Option, None, Some}
use Rattle.std.specs.Map.{lookup}
use Rattle.gix_base.specs.declared.hash.ObjectId.{ObjectId}
use Rattle.gix_base.specs.declared.object.Kind.{Kind}
use Rattle.gix_revwalk.specs.History.{same_id}
use Rattle.gix_ids.specs.TableForm.{fan_below}
use Rattle.gix_ids.specs.TableLookup.{IsAt, IsAbsent}
use Rattle.gix_pack.specs.DeltaForm.{IsDelta, IsRefused}
use Rattle.gix_pack.specs.EntryForm.{IsHeader}
use Rattle.gix_pack.specs.IndexForm.{IsIndex, IsFaulty, objects_in, offset_at, table_of}
use Rattle.gix_pack.specs.PartForm.{AreRising, ids_with, part_of}
use Rattle.gix_pack.specs.PackObjects.{StandsAt}
use Rattle.gix_pack.specs.declared.delta.fault.ApplyError.{ApplyError}
use Rattle.gix_pack.specs.declared.delta.fault.ApplyError.TheVariants.{OutOfMemory}
use Rattle.gix_pack.specs.declared.entry.Body.{Body}
use Rattle.gix_pack.specs.declared.index.fault.OpenFault.{OpenFault}

-- A text begins with one header at most.
abbrev pub OneHeader : Type 0
OneHeader = (text : List ℕ) (body other : Body) (size more len end : ℕ) → IsHeader text body size len → IsHeader text other more end → (body ≡ other) × (size ≡ more) × (len ≡ end)

-- A delta makes one target at most of a base.
abbrev pub OneTarget : Type 0
OneTarget = (base delta target other : List ℕ) → IsDelta base delta target → IsDelta base delta other → target ≡ other

-- A delta that is refused, except for memory, makes no target of at most limit bytes.
abbrev pub RefusedIsNoDelta : Type 0
RefusedIsNoDelta = (base delta : List ℕ) (limit : ℕ) (error : ApplyError) (target : List ℕ) → error ≢ OutOfMemory → IsRefused base delta limit error → length target ≤ limit → ¬ IsDelta base delta target

-- Bytes with a fault are no index.
abbrev pub FaultyIsNoIndex : Type 0
FaultyIsNoIndex = (s : List ℕ) (fault : OpenFault) → IsFaulty s fault → ¬ IsIndex s

-- One object at most is at an offset of a pack.
abbrev pub OneObject : Type 0
OneObject = (inflated : List ℕ → Option (List ℕ)) (place : ObjectId → Option ℕ) (pack : List ℕ) (offset : ℕ) (kind other : Kind) (content more : List ℕ)
    → StandsAt inflated place pack offset kind content → StandsAt inflated place pack offset other more → (kind ≡ other) × (content ≡ more)

-- The ids of a part rise. An id that is at a position of the part has the offset of that position of
-- the index, counted from the first id of the part. An id that the part lacks has no offset.
pub record FindsAsWhole (s part : List ℕ) (first : ℕ) (id : ObjectId) : Type 0 where
  pub rising : AreRising part
  pub found : (k : ℕ) → IsAt part (part_of part) id k → lookup (same_id id) (objects_in s) ≡ Some (offset_at s (first + k))
  pub lacking : IsAbsent part (part_of part) id → lookup (same_id id) (objects_in s) ≡ None

-- An id is found in the part of an index that has its first byte exactly as in the whole index.
abbrev pub PartsFind : Type 0
PartsFind = (s : List ℕ) (id : ObjectId) → IsIndex s → slice_index id.0 0 < 256
    → FindsAsWhole s (ids_with s (slice_index id.0 0)) (fan_below s (table_of s) (slice_index id.0 0)) id
