-- Numbers and ids in the bytes of a file (gitformat-commit-graph, "File Layout", and
-- gitformat-pack, "Version 2 pack-*.idx files": numbers are in network byte order).
use Rattle.std.specs.Prelude.{ℕ, ◌+◌, List, [], ◌∷◌, take, drop, slice_index}
use Rattle.std.specs.Int.{w32, w64, from_be_bytes}
use Rattle.gix_base.specs.declared.hash.ObjectId.{ObjectId}

-- The number in the 4 bytes of s at offset at, in network byte order (gitformat-commit-graph, "File
-- Layout").
unfoldable pub word : List ℕ → ℕ → ℕ
word s at = from_be_bytes w32 (slice_index s at ∷ slice_index s (at + 1) ∷ slice_index s (at + 2) ∷ slice_index s (at + 3) ∷ [])

-- The number in the 8 bytes of s at offset at, in network byte order (gitformat-commit-graph, "File
-- Layout").
unfoldable pub long : List ℕ → ℕ → ℕ
long s at =
    from_be_bytes w64 (slice_index s at ∷ slice_index s (at + 1) ∷ slice_index s (at + 2) ∷ slice_index s (at + 3)
    ∷ slice_index s (at + 4) ∷ slice_index s (at + 5) ∷ slice_index s (at + 6) ∷ slice_index s (at + 7) ∷ [])

-- The id in the 20 bytes of s at offset at.
unfoldable pub id_from : List ℕ → ℕ → ObjectId
id_from s at = record { 0 = take 20 (drop at s) }
