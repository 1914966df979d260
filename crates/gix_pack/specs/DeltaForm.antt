-- Deltas (gitformat-pack, "Deltified representation", "Instruction to copy from base object" and
-- "Instruction to add new data").
use Rattle.std.specs.Prelude.{◌≡◌, ◌≢◌, ℕ, ◌+◌, ◌*◌, ◌/◌, ◌%◌, ◌^◌, ◌<◌, ◌≤◌, ◌==◌, Bool, List, [], ◌++◌, length, take, drop, slice_index, count_ones, nat_lt, nat_le, if◌then◌else◌, Result, Ok, Err}
use Rattle.gix_pack.specs.PackNumbers.{HasNumber, number_bytes, behind_number, low_first}
use Rattle.gix_pack.specs.declared.delta.fault.DeltaFault.{DeltaFault}
use Rattle.gix_pack.specs.declared.delta.fault.DeltaFault.TheVariants.{SourceSize, TargetSize, Truncated, Outside, Reserved}
use Rattle.gix_pack.specs.declared.delta.fault.ApplyError.{ApplyError}
use Rattle.gix_pack.specs.declared.delta.fault.ApplyError.TheVariants.{Malformed, TooLarge, OutOfMemory}

-- A number that was read, and the bytes after it.
pub record Part : Type 0 where
  pub value : ℕ
  pub rest : List ℕ

-- Tests whether a bit of the first byte of an instruction is set.
abbrev pub is_set : ℕ → ℕ → Bool
is_set command bit = (command / 2 ^ bit % 2) == 1

-- The next byte of text if its bit is set. A byte whose bit is clear is left out, and counts as 0.
abbrev pub byte_if : Bool → List ℕ → Part
byte_if set text = record {
  value = if set then slice_index text 0 else 0;
  rest = if set then drop 1 text else text;
}

-- A number, and one that was read after it and counts place times.
abbrev pub joined : Part → ℕ → Part → Part
joined low place high = record { value = low.value + place * high.value; rest = high.rest }

-- The number of two bytes, the lower one first. The bits from bit on say which of them are there.
unfoldable pub two_at : ℕ → ℕ → List ℕ → Part
two_at command bit text =
    joined (byte_if (is_set command bit) text) 256 (byte_if (is_set command (bit + 1)) (byte_if (is_set command bit) text).rest)

-- The offset of a copy: four bytes, the lowest first, by the bits 0 to 3.
unfoldable pub offset_at : ℕ → List ℕ → Part
offset_at command text = joined (two_at command 0 text) (2 ^ 16) (two_at command 2 (two_at command 0 text).rest)

-- The size of a copy: three bytes, the lowest first, by the bits 4 to 6.
unfoldable pub size_at : ℕ → List ℕ → Part
size_at command text = joined (two_at command 4 text) (2 ^ 16) (byte_if (is_set command 6) (two_at command 4 text).rest)

-- What an instruction adds to the target, and the bytes after the instruction.
pub record Addition : Type 0 where
  pub added : List ℕ
  pub rest : List ℕ

-- The number of bytes that a copy of a size adds: size 0 stands for 0x10000.
abbrev pub copied : ℕ → ℕ
copied size = if size == 0 then 0x1_0000 else size

-- A copy of size bytes at an offset of base. The base must have them.
abbrev pub copy_of : List ℕ → ℕ → ℕ → List ℕ → Result Addition DeltaFault
copy_of base offset size rest =
    if nat_le (offset + size) (length base) then Ok (record { added = take size (drop offset base); rest = rest })
    else Err Outside

-- An instruction to copy, whose first byte is command. A byte of text follows for each of its bits
-- 0 to 6 that is set.
unfoldable pub copy_at : List ℕ → ℕ → List ℕ → Result Addition DeltaFault
copy_at base command text =
    if nat_le (count_ones (command % 128)) (length text) then
    copy_of base (offset_at command text).value (copied (size_at command (offset_at command text).rest).value) (size_at command (offset_at command text).rest).rest
    else Err Truncated

-- An instruction to add the next count bytes of text. Count 0 is reserved.
unfoldable pub insert_at : ℕ → List ℕ → Result Addition DeltaFault
insert_at count text =
    if count == 0 then Err Reserved
    else if nat_le count (length text) then Ok (record { added = take count text; rest = drop count text })
    else Err Truncated

-- What the instruction at the beginning of text adds, or its fault. The highest bit of its first
-- byte is set if it is a copy.
unfoldable pub step_at : List ℕ → List ℕ → Result Addition DeltaFault
step_at base text =
    if nat_lt (slice_index text 0) 128 then insert_at (slice_index text 0) (drop 1 text)
    else copy_at base (slice_index text 0) (drop 1 text)

-- The instructions of a text, all of them well-formed, make a target of base. Each adds to what
-- those before it made.
pub data Makes (base : List ℕ) : List ℕ → List ℕ → Type 0 where
  nothing : Makes base [] []
  more : (text : List ℕ) (step : Addition) (target : List ℕ) → 0 < length text → step_at base text ≡ Ok step → Makes base step.rest target → Makes base text (step.added ++ target)

-- The first instruction of a text that is not well-formed has a fault.
pub data Breaks (base : List ℕ) (fault : DeltaFault) : List ℕ → Type 0 where
  here : (text : List ℕ) → 0 < length text → step_at base text ≡ Err fault → Breaks base fault text
  later : (text : List ℕ) (step : Addition) → 0 < length text → step_at base text ≡ Ok step → Breaks base fault step.rest → Breaks base fault text

-- The size of the base, by the delta.
abbrev pub source_size : List ℕ → ℕ
source_size delta = low_first (number_bytes delta)

-- The size of the target, by the delta.
abbrev pub target_size : List ℕ → ℕ
target_size delta = low_first (number_bytes (behind_number delta))

-- The instructions of a delta: what follows the two sizes.
abbrev pub instructions : List ℕ → List ℕ
instructions delta = behind_number (behind_number delta)

-- The delta is for the base: it begins with the size of the base. git refuses deltas of fewer than
-- 4 bytes.
pub record IsFor (base delta : List ℕ) : Type 0 where
  pub long : 4 ≤ length delta
  pub number : HasNumber delta
  pub source : source_size delta ≡ length base

-- The delta is for the base, says the size of the target, and its instructions make the target.
pub record IsDelta (base delta target : List ℕ) : Type 0 where
  pub source : IsFor base delta
  pub number : HasNumber (behind_number delta)
  pub sized : target_size delta ≡ length target
  pub makes : Makes base (instructions delta) target

-- What the fault says of the delta is true.
abbrev pub IsWrong : List ℕ → List ℕ → DeltaFault → Type 0
IsWrong base delta SourceSize = ¬ IsFor base delta
IsWrong base delta TargetSize = IsFor base delta × (HasNumber (behind_number delta) → (target : List ℕ) → Makes base (instructions delta) target → target_size delta ≢ length target)
IsWrong base delta Truncated = Breaks base Truncated (instructions delta)
IsWrong base delta Outside = Breaks base Outside (instructions delta)
IsWrong base delta Reserved = Breaks base Reserved (instructions delta)

-- Why a delta is not applied: it has a fault, it is for the base and says a target of more than limit
-- bytes, or memory ran out.
abbrev pub IsRefused : List ℕ → List ℕ → ℕ → ApplyError → Type 0
IsRefused base delta limit (Malformed fault) = IsWrong base delta fault
IsRefused base delta limit TooLarge = IsFor base delta × HasNumber (behind_number delta) × (limit < target_size delta)
IsRefused base delta limit OutOfMemory = Unit {0}
