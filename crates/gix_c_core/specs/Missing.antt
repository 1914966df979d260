-- The missing parents of a history, as C receives them.
use Rattle.std.specs.Prelude.{◌↔◌, ℕ, List, Bool, not, is_some, IsTrue, Option, map, take, length}
use Rattle.std.specs.List.Sorted.{IsStrictlySortedBy}
use Rattle.gix_base.specs.Hash.{id_order}
use Rattle.gix_base.specs.declared.hash.ObjectId.{ObjectId}
use Rattle.gix_revwalk.specs.History.{History, Has, entry_at, is_one_of}
use Rattle.gix_resolve.specs.ListMeaning.{past}
use Rattle.gix_c_core.specs.Answers.{bytes_in, IsWritten}
use Rattle.gix_c_core.specs.Behind.{commits_of}
use Rattle.gix_c_core.specs.Noted.{IsMissing, Remembers}
use Rattle.gix_c_core.specs.declared.handle.Handle.{Handle}

-- The list ids has exactly the missing parents of the history h, each once, by rising id.
pub record ListsMissing (h : History) (ids : List ObjectId) : Type 0 where
  pub missing : (p : ObjectId) → IsTrue (is_one_of ids p) ↔ IsMissing h p
  pub rising : IsStrictlySortedBy id_order ids

-- The missing parents that are greater than the bound are written by rising id, each once and as
-- many as fit. Without a bound, all missing parents count. The number of those written is count.
pub record HasMissing (h : History) (bound : Option ObjectId) (old new : List (List ℕ)) (count : ℕ) : Type 0 where
  pub all : List ObjectId
  pub lists : ListsMissing h all
  pub written : IsWritten (map bytes_in (take (length old) (past bound all))) old new count

-- Whether the history h has no commit p.
abbrev pub is_lacked : History → ObjectId → Bool
is_lacked h p = not (is_some (entry_at h p))

-- The list found has exactly those of ids that the history h does not have, each once, by rising
-- id.
pub record AreLacked (h : History) (ids found : List ObjectId) : Type 0 where
  pub lacked : (p : ObjectId) → IsTrue (is_one_of found p) ↔ (IsTrue (is_one_of ids p) × (¬ Has h p))
  pub rising : IsStrictlySortedBy id_order found

-- The history of a handle notes parents: its list of them has only parents of its commits, and
-- every missing one.
abbrev pub IsNoted : Handle → Type 0
IsNoted h = Remembers (commits_of h) h.value.named.items
