-- The header of an entry of a pack (gitformat-pack, "pack-*.pack files have the following format",
-- "Object types" and "Deltified representation").
use Rattle.std.specs.Prelude.{◌≡◌, ℕ, ◌+◌, ◌*◌, ◌/◌, ◌%◌, ◌≤◌, List, length, take, drop, slice_index}
use Rattle.gix_base.specs.declared.object.Kind.{Kind}
use Rattle.gix_base.specs.declared.object.Kind.TheVariants.{Tree, Blob, Commit, Tag}
use Rattle.gix_pack.specs.PackNumbers.{HasNumber, number_length, number_bytes, behind_number, low_first, high_first}
use Rattle.gix_pack.specs.declared.entry.Body.{Body}
use Rattle.gix_pack.specs.declared.entry.Body.TheVariants.{Whole, OffsetDelta, IdDelta}

-- The type of an entry: bits 4 to 6 of its first byte.
abbrev pub type_of : List ℕ → ℕ
type_of text = slice_index text 0 / 16 % 8

-- The size that some bytes say: the lower 4 bits of the first byte, and above them the lower 7 bits
-- of each further byte.
abbrev pub low_size : List ℕ → ℕ
low_size bytes = slice_index bytes 0 % 16 + 16 * low_first (drop 1 bytes)

-- The size that the entry at the beginning of text has, as it says, once it is inflated.
abbrev pub size_of : List ℕ → ℕ
size_of text = low_size (number_bytes text)

-- The type of an object that is stored whole.
abbrev pub type_number : Kind → ℕ
type_number Commit = 1
type_number Tree = 2
type_number Blob = 3
type_number Tag = 4

-- An entry of a type is a whole object, a delta to the object at a distance before it, or a delta
-- to the object with an id. rest is what follows type and size. Its first n bytes are the distance
-- or the id of the base.
abbrev pub HasBody : ℕ → List ℕ → Body → ℕ → Type 0
HasBody type rest (Whole kind) n = (type ≡ type_number kind) × (n ≡ 0)
HasBody type rest (OffsetDelta distance) n = (type ≡ 6) × HasNumber rest × (distance ≡ high_first (number_bytes rest)) × (n ≡ number_length rest)
HasBody type rest (IdDelta base) n = (type ≡ 7) × (20 ≤ length rest) × (base.0 ≡ take 20 rest) × (n ≡ 20)

-- The text begins with the header of an entry, which has len bytes. It says that what follows has
-- size bytes once it is inflated.
pub record IsHeader (text : List ℕ) (body : Body) (size : ℕ) (len : ℕ) : Type 0 where
  pub number : HasNumber text
  pub sized : size ≡ size_of text
  pub within : len ≤ length text
  pub stands : (n : ℕ) × HasBody (type_of text) (behind_number text) body n × (len ≡ number_length text + n)
