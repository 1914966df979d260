-- Bits of ids, by which most commits are known to have no name.
use Rattle.std.specs.Prelude.{◌≡◌, ℕ, ◌%◌, List, slice_index, IsTrue}
use Rattle.std.specs.Int.{bit_at}
use Rattle.gix_base.specs.declared.hash.ObjectId.{ObjectId}
use Rattle.gix_describe.specs.Described.{Names}
use Rattle.gix_describe.specs.Trace.{is_named}

-- The bit of an id. The last byte of the id selects the word, the byte before it the place in the
-- word, both modulo 64.
abbrev pub bit_in : List ℕ → ObjectId → ℕ
bit_in words id = bit_at (slice_index words (slice_index id.0 19 % 64)) (slice_index id.0 18 % 64)

-- The bit of every id that has a name is set.
abbrev pub LetsPass : List ℕ → Names → Type 0
LetsPass words names = (c : ObjectId) → IsTrue (is_named names c) → bit_in words c ≡ 1
