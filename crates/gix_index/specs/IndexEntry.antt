-- What an entry of the index stands for (gitformat-index, "Index entry").
use Rattle.std.specs.Prelude.{◌≡◌, ℕ, ◌+◌, ◌-◌, ◌*◌, ◌/◌, ◌%◌, ◌++◌, ◌==◌, Bool, if◌then◌else◌, List, length, take, drop}
use Rattle.gix_ids.specs.TableBytes.{word, id_from}
use Rattle.gix_pack.specs.PackNumbers.{number_length, number_bytes, high_first}
use Rattle.gix_index.specs.IndexBytes.{half, name_at_front}
use Rattle.gix_index.specs.declared.entry.Stat.{Stat}
use Rattle.gix_index.specs.declared.entry.Entry.{Entry}

-- What stat(2) said of the file, in the first 40 bytes of an entry. The mode is between them.
unfoldable pub stat_in : List ℕ → Stat
stat_in s = record {
  ctime = word s 0;
  ctime_nanos = word s 4;
  mtime = word s 8;
  mtime_nanos = word s 12;
  dev = word s 16;
  ino = word s 20;
  uid = word s 28;
  gid = word s 32;
  size = word s 36;
}

-- The extended flag: a second field of flags follows the first one.
abbrev pub is_extended : List ℕ → Bool
is_extended s = half s 60 / 16384 % 2 == 1

-- The second field of flags; 0 if there is none.
unfoldable pub more_in : List ℕ → ℕ
more_in s = if is_extended s then half s 62 else 0

-- How many bytes come before the name, or before the number in front of it in version 4.
unfoldable pub head_length : List ℕ → ℕ
head_length s = if is_extended s then 64 else 62

-- In versions 2 and 3, the name of an entry: it comes behind the flags.
abbrev pub plain_rest : ℕ → List ℕ → List ℕ
plain_rest head s = name_at_front (drop head s)

-- In versions 2 and 3, the length of an entry: one to eight bytes that are 0 fill it up to a
-- multiple of 8.
abbrev pub plain_length : ℕ → List ℕ → ℕ
plain_length head s = (head + length (plain_rest head s) + 8) / 8 * 8

-- In version 4, how many bytes the number has that comes behind the flags.
abbrev pub digits : ℕ → List ℕ → ℕ
digits head s = number_length (drop head s)

-- In version 4, the number behind the flags: how many bytes are dropped from the end of the path
-- of the entry before.
abbrev pub dropped : ℕ → List ℕ → ℕ
dropped head s = high_first (number_bytes (drop head s))

-- In version 4, what comes in the place of the dropped bytes.
abbrev pub short_rest : ℕ → List ℕ → List ℕ
short_rest head s = name_at_front (drop (digits head s) (drop head s))

-- In version 4, the length of an entry: a byte that is 0 ends it.
abbrev pub short_length : ℕ → List ℕ → ℕ
short_length head s = head + digits head s + length (short_rest head s) + 1

-- The path of an entry, after an entry with the path before.
unfoldable pub path_in : ℕ → List ℕ → List ℕ → List ℕ
path_in version before s =
    if version == 4
    then take (length before - dropped (head_length s) s) before ++ short_rest (head_length s) s
    else plain_rest (head_length s) s

-- The length of an entry.
unfoldable pub length_in : ℕ → List ℕ → ℕ
length_in version s =
    if version == 4 then short_length (head_length s) s else plain_length (head_length s) s

-- The n bytes at the front of s stand for the entry e of an index of this version, after an entry
-- with the path before.
pub record IsEntry {A : Type 0} (version : ℕ) (before s : List ℕ) (e : Entry A) (n : ℕ) : Type 0 where
  pub stat : e.stat ≡ stat_in s
  pub mode : e.mode ≡ word s 24
  pub id : e.id ≡ id_from s 40
  pub flags : e.flags ≡ half s 60
  pub more : e.more ≡ more_in s
  pub path : e.path.items ≡ path_in version before s
  pub length : n ≡ length_in version s
