-- Laws of the definitions.
use Rattle.std.specs.Prelude.{◌≡◌, ◌↔◌, Bool, true}
use Rattle.std.specs.declared.cmp.Ordering.{Ordering}
use Rattle.std.specs.declared.cmp.Ordering.TheVariants.{Equal}
use Rattle.std.specs.Str.{str_to_ascii_lowercase}
use Rattle.gix_base.specs.Digits.{bytes_of}
use Rattle.gix_base.specs.Hash.{IsId, id_text, IsIdText}
use Rattle.gix_base.specs.Prefix.{prefix_text, IsPrefixText, IsFullPrefix, BeginsWith, order_against}
use Rattle.gix_base.specs.declared.hash.ObjectId.{ObjectId}
use Rattle.gix_base.specs.declared.hash.Prefix.{Prefix}

-- An order answers `Equal` exactly for two values that are equal.
abbrev pub OrderAgrees : {T : Type 0} → (T → T → Ordering) → (T → T → Bool) → Type 0
OrderAgrees {T} order equal = (a b : T) → (order a b ≡ Equal) ↔ (equal a b ≡ true)

-- Equal values are hashed by the same writes.
abbrev pub HashAgrees : {T W : Type 0} → (T → W) → (T → T → Bool) → Type 0
HashAgrees {T} {W} writes equal = (a b : T) → equal a b ≡ true → writes a ≡ writes b

-- Two values are equal exactly if they are the same value.
abbrev pub EqualIsSame : {T : Type 0} → (T → T → Bool) → Type 0
EqualIsSame {T} equal = (a b : T) → (equal a b ≡ true) ↔ (a ≡ b)

-- An order answers what its definition says.
abbrev pub OrderIs : {T : Type 0} → (T → T → Ordering) → (T → T → Ordering) → Type 0
OrderIs {T} order definition = (a b : T) → order a b ≡ definition a b

-- If an id has 20 bytes, its text can be read as an id, and the digits of the text say the bytes of
-- the id.
abbrev pub IdsReadBack : Type 0
IdsReadBack = (id : ObjectId) → IsId id → IsIdText (id_text id) × (bytes_of (id_text id) ≡ id.0)

-- The text of a prefix can be read as a prefix and is in lower case. No other prefix has this text.
abbrev pub PrefixesReadBack : Type 0
PrefixesReadBack =
    (p : Prefix) → IsPrefixText (prefix_text p)
    × (str_to_ascii_lowercase (prefix_text p) ≡ prefix_text p)
    × ((q : Prefix) → prefix_text q ≡ prefix_text p → q ≡ p)

-- Each id with 20 bytes has a prefix of all its digits.
abbrev pub IdsHaveFullPrefixes : Type 0
IdsHaveFullPrefixes = (id : ObjectId) → IsId id → (p : Prefix) × IsFullPrefix p id

-- A prefix compares as `Equal` with an id exactly if the id begins with the prefix.
abbrev pub EqualIsBeginning : Type 0
EqualIsBeginning = (p : Prefix) (id : ObjectId) → (order_against p id ≡ Equal) ↔ BeginsWith id p
