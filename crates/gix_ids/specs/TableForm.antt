-- Sorted ids with a fanout table (gitformat-pack, "A 256-entry fan-out table" and "A table of
-- sorted object names"; gitformat-commit-graph, "OID Fanout" and "OID Lookup").
use Rattle.std.specs.Prelude.{◌≡◌, ℕ, ◌+◌, ◌-◌, ◌*◌, ◌≤◌, ◌<◌, List, length, cond, nat_eq, slice_index}
use Rattle.std.specs.Cmp.Lexicographic.{slice_cmp}
use Rattle.std.specs.Ordering.{nat_cmp}
use Rattle.std.specs.declared.cmp.Ordering.{Ordering}
use Rattle.std.specs.declared.cmp.Ordering.TheVariants.{Less}
use Rattle.gix_base.specs.declared.hash.ObjectId.{ObjectId}
use Rattle.gix_ids.specs.TableBytes.{word, id_from}
use Rattle.gix_ids.specs.declared.table.Table.{Table}
use Rattle.gix_ids.specs.declared.fault.TableFault.{TableFault}
use Rattle.gix_ids.specs.declared.fault.TableFault.TheVariants.{Fanout, IdPlace, IdOrder}

-- How the ids a and b compare, byte by byte.
abbrev pub compare_ids : ObjectId → ObjectId → Ordering
compare_ids a b = slice_cmp nat_cmp a.0 b.0

-- The fanout table and the ids of the table t are inside the bytes s.
pub record IsInside (s : List ℕ) (t : Table) : Type 0 where
  pub fanout : t.fanout + 1024 ≤ length s
  pub ids : t.ids + 20 * t.count ≤ length s

module _ (s : List ℕ) (t : Table) where
  -- The id at position i, from 0 on.
  abbrev pub id_of : ℕ → ObjectId
  id_of i = id_from s (t.ids + 20 * i)

  -- The number of ids whose first byte is at most b, by the fanout table.
  abbrev pub fan : ℕ → ℕ
  fan b = word s (t.fanout + 4 * b)

  -- The number of ids whose first byte is less than b, by the fanout table.
  abbrev pub fan_below : ℕ → ℕ
  fan_below b = cond (nat_eq b 0) 0 (fan (b - 1))

  -- At b the fanout table does not fall, and does not exceed the number of ids
  -- (gitformat-commit-graph, "OID Fanout").
  pub record Fans (b : ℕ) : Type 0 where
    pub rises : fan_below b ≤ fan b
    pub most : fan b ≤ t.count

  -- The first byte of the id at position i.
  abbrev pub first_byte : ℕ → ℕ
  first_byte i = slice_index s (t.ids + 20 * i)

  -- The id at position i is where the fanout table says for its first byte (gitformat-commit-graph,
  -- "OID Fanout").
  pub record IsFanned (i : ℕ) : Type 0 where
    pub above : fan_below (first_byte i) ≤ i
    pub below : i < fan (first_byte i)

  -- The id at position i + 1 is greater, byte by byte, than the id at position i
  -- (gitformat-commit-graph, "OID Lookup").
  abbrev pub Rises : ℕ → Type 0
  Rises i = compare_ids (id_of i) (id_of (i + 1)) ≡ Less

  -- The fanout table and the ids are as a look-up needs them: they are inside s, the table `Fans`
  -- at each byte, each id `IsFanned`, and each id but the last `Rises` to the next.
  pub record IsSorted : Type 0 where
    pub inside : IsInside s t
    pub fans : (b : ℕ) → b < 256 → Fans b
    pub fanned : (i : ℕ) → i < t.count → IsFanned i
    pub rises : (i : ℕ) → i + 1 < t.count → Rises i

  -- The table has this fault. `Fanout`: `Fans` fails at some byte. `IdPlace`: `IsFanned` fails at
  -- some position. `IdOrder`: `Rises` fails at some position but the last.
  abbrev pub IsWrong : TableFault → Type 0
  IsWrong Fanout = (b : ℕ) × (b < 256) × (¬ Fans b)
  IsWrong IdPlace = (i : ℕ) × (i < t.count) × (¬ IsFanned i)
  IsWrong IdOrder = (i : ℕ) × (i + 1 < t.count) × (¬ Rises i)
