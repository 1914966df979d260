-- What is known of a chain of files while it is opened.
use Rattle.std.specs.Prelude.{◌≡◌, ℕ, ◌<◌, List, ◌++◌, length}
use Rattle.gix_base.specs.declared.hash.ObjectId.{ObjectId}
use Rattle.gix_revwalk.specs.History.{History, Entry, Has, entry_at}
use Rattle.gix_ids.specs.TableForm.{id_of}
use Rattle.gix_ids.specs.TableIds.{rows_from}
use Rattle.gix_ids.specs.declared.table.Table.{Table}
use Rattle.gix_commitgraph.specs.ChainCommits.{ids_of}
use Rattle.gix_commitgraph.specs.ChainFormat.{IsFresh, IsLayer}

-- The id of a row of the table t is in the history h, or is the id of a row before it.
abbrev pub IsTwice : History → List ℕ → Table → (ℕ → Entry) → Type 0
IsTwice h s t f = (i : ℕ) × (i < t.count) × Has (h ++ rows_from s t f 0 i) (id_of s t i)

-- What is kept while a chain is opened: the commits j and the ids are those of the history h, and
-- own are the hashes of its files.
pub record Holds (h : History) (hashes : List ℕ) (j : History) (ids : List ObjectId) (own : List ℕ) : Type 0 where
  pub commits : (q : ObjectId) → entry_at j q ≡ entry_at h q
  pub same_ids : ids ≡ ids_of h
  pub same_hashes : own ≡ hashes

-- The file s is the next one of a chain over files with these hashes and the history h.
abbrev pub IsNext : List ℕ → History → List ℕ → Type 0
IsNext hashes h s = IsLayer hashes (length (ids_of h)) s × IsFresh h s

-- The commits j and the ids are those of the history h. The hashes own may be any.
abbrev pub HoldsSome : History → History → List ObjectId → List ℕ → Type 0
HoldsSome h j ids own = (hashes : List ℕ) × Holds h hashes j ids own
