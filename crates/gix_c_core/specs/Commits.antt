-- The commits of a history, as C receives them.
use Rattle.std.specs.Prelude.{◌≡◌, ℕ, List, Some, None, if◌then◌else◌, map, is_some}
use Rattle.gix_base.specs.declared.hash.ObjectId.{ObjectId}
use Rattle.gix_revwalk.specs.History.{History, Entry, entry_at, is_one_of}
use Rattle.gix_c_core.specs.Answers.{bytes_in, IsWritten}
use Rattle.gix_c_core.specs.Behind.{commits_of}
use Rattle.gix_c_core.specs.declared.commits.CommitFields.{CommitFields}
use Rattle.gix_c_core.specs.declared.handle.Handle.{Handle}

-- The history h has a commit under id. The fields out are its date, its generation number and the
-- number of its parents, and its parents are written (gitglossary, "commit object").
pub record HasCommit (h : History) (id : ObjectId) (old new : List (List ℕ)) (out : CommitFields) : Type 0 where
  pub commit : Entry
  pub there : entry_at h id ≡ Some commit
  pub time : out.time ≡ commit.time
  pub generation : (if out.has_generation then Some out.generation else None) ≡ commit.generation
  pub parents : IsWritten (map bytes_in commit.parents) old new out.parents_len

-- Abbreviated object names stand for the ids of exactly the commits of the history, as in a new
-- history and in one that was opened.
abbrev pub IsKnown : Handle → Type 0
IsKnown h = (id : ObjectId) → is_one_of h.value.table.ids.keys id ≡ is_some (entry_at (commits_of h) id)
