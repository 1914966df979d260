-- Numbers of a variable length (gitformat-pack, "Size encoding", and "offset encoding" in the
-- description of OBJ_OFS_DELTA).
use Rattle.std.specs.Prelude.{ℕ, ◌+◌, ◌*◌, ◌%◌, ◌<◌, List, [], ◌∷◌, length, take, drop, slice_index, nat_le}
use Rattle.std.specs.List.{prefix_len}

-- The number of bytes at the beginning of text that have their highest bit set. The byte after each
-- of them belongs to the same number.
unfoldable pub going_on : List ℕ → ℕ
going_on text = prefix_len (λ b. nat_le 128 b) text

-- The text begins with a number of at most 9 bytes, whose last byte has its highest bit clear.
pub record HasNumber (text : List ℕ) : Type 0 where
  pub ends : going_on text < length text
  pub short : going_on text < 9

-- The length in bytes of the number at the beginning of text.
abbrev pub number_length : List ℕ → ℕ
number_length text = going_on text + 1

-- The bytes of the number at the beginning of text.
abbrev pub number_bytes : List ℕ → List ℕ
number_bytes text = take (number_length text) text

-- The bytes after the number at the beginning of text.
abbrev pub behind_number : List ℕ → List ℕ
behind_number text = drop (number_length text) text

-- The number that some bytes say by their lower 7 bits, the least significant byte first.
unfoldable pub low_first : List ℕ → ℕ
low_first [] = 0
low_first (b ∷ bs) = b % 128 + 128 * low_first bs

-- The number that n and some bytes after it say by their lower 7 bits, the most significant byte
-- first. Each byte adds 1 to the number before it, so that no number can be written in two ways.
unfoldable pub high_after : ℕ → List ℕ → ℕ
high_after n [] = n
high_after n (b ∷ bs) = high_after ((n + 1) * 128 + b % 128) bs

-- The distance that some bytes say, the most significant byte first.
abbrev pub high_first : List ℕ → ℕ
high_first bytes = high_after (slice_index bytes 0 % 128) (drop 1 bytes)
