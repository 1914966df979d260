-- The index of a pack (gitformat-pack, "Version 2 pack-*.idx files").
use Rattle.std.specs.Prelude.{◌≡◌, ◌≢◌, ℕ, ◌+◌, ◌-◌, ◌*◌, ◌/◌, ◌^◌, ◌≤◌, ◌<◌, List, [], ◌∷◌, length, take, nat_lt, if◌then◌else◌}
use Rattle.gix_base.specs.declared.hash.ObjectId.{ObjectId}
use Rattle.gix_ids.specs.TableBytes.{word, long}
use Rattle.gix_ids.specs.TableForm.{IsSorted, IsWrong}
use Rattle.gix_ids.specs.TableIds.{rows_in}
use Rattle.gix_ids.specs.declared.table.Table.{Table}
use Rattle.gix_pack.specs.declared.index.fault.OpenFault.{OpenFault}
use Rattle.gix_pack.specs.declared.index.fault.OpenFault.TheVariants.{TooShort, Signature, Version, Size, Ids, NoOffset}
use Rattle.gix_pack.specs.declared.part.Offset.{Offset}
use Rattle.gix_pack.specs.declared.part.Offset.TheVariants.{Small, Large}

-- The index s begins with its signature and version 2, and has room for a fanout table of 256
-- numbers.
pub record HasHeader (s : List ℕ) : Type 0 where
  pub long : 1032 ≤ length s
  pub signature : take 4 s ≡ 0xff ∷ 0x74 ∷ 0x4f ∷ 0x63 ∷ []
  pub version : word s 4 ≡ 2

-- The number of objects: the last number of the fanout table.
abbrev pub count_of : List ℕ → ℕ
count_of s = word s 1028

-- The table of ids: the fanout table after 8 bytes, and the ids after it.
unfoldable pub table_of : List ℕ → Table
table_of s = record { count = count_of s; fanout = 8; ids = 1032 }

-- Where the offsets of 4 bytes begin: after 20 bytes for the id and 4 bytes for the CRC of each
-- object.
abbrev pub offsets_from : List ℕ → ℕ
offsets_from s = 1032 + 24 * count_of s

-- Where the offsets of 8 bytes begin.
abbrev pub large_from : List ℕ → ℕ
large_from s = 1032 + 28 * count_of s

-- The number of offsets of 8 bytes. Two hashes of 20 bytes follow them.
abbrev pub large_count : List ℕ → ℕ
large_count s = (length s - (large_from s + 40)) / 8

-- The 4 bytes of the offset of the object at position i, as a number.
abbrev pub short_offset : List ℕ → ℕ → ℕ
short_offset s i = word s (offsets_from s + 4 * i)

-- What the 4 bytes for an offset say, as a number n. With its highest bit clear, n is the offset.
-- Otherwise the other bits are the number of an offset of 8 bytes.
unfoldable pub offset_said : ℕ → Offset
offset_said n = if nat_lt n (2 ^ 31) then Small n else Large (n - 2 ^ 31)

-- The offset in the pack that an Offset stands for: the offset itself, or the offset of 8 bytes
-- that it names.
abbrev pub offset_behind : List ℕ → Offset → ℕ
offset_behind s (Small offset) = offset
offset_behind s (Large entry) = long s (large_from s + 8 * entry)

-- The offset in the pack of the object at position i.
abbrev pub offset_at : List ℕ → ℕ → ℕ
offset_at s i = offset_behind s (offset_said (short_offset s i))

-- If the offset of the object at position i is one of 8 bytes, the index has it.
abbrev pub HasOffset : List ℕ → ℕ → Type 0
HasOffset s i = 2 ^ 31 ≤ short_offset s i → short_offset s i - 2 ^ 31 < large_count s

-- The tables and two hashes of 20 bytes fill the file.
abbrev pub HasSize : List ℕ → Type 0
HasSize s = large_from s + 8 * large_count s + 40 ≡ length s

-- The bytes s are a well-formed index of version 2. The tables and two hashes fill the file, the
-- ids rise and are where the fanout table says, and the index has the offset of each object.
pub record IsIndex (s : List ℕ) : Type 0 where
  pub header : HasHeader s
  pub size : HasSize s
  pub sorted : IsSorted s (table_of s)
  pub offsets : (i : ℕ) → i < count_of s → HasOffset s i

-- The objects of an index, in the order of their positions: each id with its offset in the pack.
unfoldable pub objects_in : List ℕ → List (ObjectId × ℕ)
objects_in s = rows_in s (table_of s) (offset_at s)

-- What the fault says of the index s is true.
abbrev pub IsFaulty : List ℕ → OpenFault → Type 0
IsFaulty s TooShort = length s < 1032
IsFaulty s Signature = take 4 s ≢ 0xff ∷ 0x74 ∷ 0x4f ∷ 0x63 ∷ []
IsFaulty s Version = word s 4 ≢ 2
IsFaulty s Size = ¬ HasSize s
IsFaulty s (Ids fault) = IsWrong s (table_of s) fault
IsFaulty s NoOffset = (i : ℕ) × (i < count_of s) × (¬ HasOffset s i)
