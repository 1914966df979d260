-- What the bytes of an index say (gitformat-index).
use Rattle.std.specs.Prelude.{◌≡◌, ℕ, ◌-◌, ◌++◌, List, [], ◌∷◌, Option, None, Some, length, take, drop, slice_get, codes}
use Rattle.gix_ids.specs.TableBytes.{word}
use Rattle.gix_index.specs.IndexEntry.{IsEntry}
use Rattle.gix_index.specs.declared.entry.Entry.{Entry}

-- The path of an entry, if there is one; an empty one otherwise.
abbrev pub path_of : {A : Type 0} → Option (Entry A) → List ℕ
path_of None = []
path_of (Some e) = e.path.items

-- The path of the last entry; an empty one if there is none.
abbrev pub last_path : {A : Type 0} → List (Entry A) → List ℕ
last_path es = path_of (slice_get es (length es - 1))

-- The bytes s stand for entries, one after another, and rest comes behind them. Each entry may
-- shorten its path by that of the entry before.
pub data AreEntries {A : Type 0} (version : ℕ) (s : List ℕ) : List (Entry A) → List ℕ → Type 0 where
  none : AreEntries version s [] s
  next : (es : List (Entry A)) (e : Entry A) (at : List ℕ) (n : ℕ) → AreEntries version s es at
      → IsEntry version (last_path es) at e n → AreEntries version s (es ++ e ∷ []) (drop n at)

-- The bytes begin with the header of an index of this version, with so many entries.
pub record IsHeader (s : List ℕ) (version count : ℕ) : Type 0 where
  pub signature : take 4 s ≡ codes "DIRC"
  pub says_version : version ≡ word s 4
  pub says_count : count ≡ word s 8

-- The entries of an index are these: as many as its header says, one after another behind it.
-- What comes behind them is extensions, and a checksum of 20 bytes.
pub record IsIndex {A : Type 0} (s : List ℕ) (es : List (Entry A)) : Type 0 where
  pub header : IsHeader s (word s 4) (length es)
  pub rest : List ℕ
  pub entries : AreEntries (word s 4) (drop 12 (take (length s - 20) s)) es rest
