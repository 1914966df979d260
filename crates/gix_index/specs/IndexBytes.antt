-- Short numbers and names in the bytes of an index (gitformat-index).
use Rattle.std.specs.Prelude.{ℕ, ◌+◌, ◌<◌, ◌==◌, List, [], ◌∷◌, length, take, slice_index}
use Rattle.std.specs.Int.{w16, from_be_bytes}
use Rattle.std.specs.List.{position_or_len}

-- The number in the 2 bytes of s at offset at.
unfoldable pub half : List ℕ → ℕ → ℕ
half s at = from_be_bytes w16 (slice_index s at ∷ slice_index s (at + 1) ∷ [])

-- The place of the first byte of text that is 0; the length of text if it has none.
unfoldable pub place_of_nul : List ℕ → ℕ
place_of_nul text = position_or_len (λ b. b == 0) text

-- A byte of text is 0.
abbrev pub HasNul : List ℕ → Type 0
HasNul text = place_of_nul text < length text

-- The name at the front of text: its bytes before the first one that is 0.
abbrev pub name_at_front : List ℕ → List ℕ
name_at_front text = take (place_of_nul text) text
