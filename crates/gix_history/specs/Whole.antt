-- Reading all that some commits reach.
use Rattle.std.specs.Prelude.{◌≡◌, ◌++◌, ℕ, List, IsTrue, Some, cond, take}
use Rattle.gix_base.specs.declared.hash.ObjectId.{ObjectId}
use Rattle.gix_revwalk.specs.History.{History, Entry, Has, IsAncestorOfOne, entry_at, is_one_of, parents_in, same_id}
use Rattle.gix_revwalk.specs.Sizes.{HasSize}
use Rattle.gix_history.specs.Levels.{Keeps}

-- In each history that keeps all of h and has the commit id, the tips reach it.
abbrev pub IsLed : List ObjectId → History → ObjectId → Type 0
IsLed tips h id = (more : History) → Keeps h more → Has more id → IsAncestorOfOne more tips id

-- The history h has `count` commits. The list has them, their parents and the tips, and nothing
-- that the tips cannot reach. All that it has before the place is read.
pub record IsListed (tips : List ObjectId) (h : History) (list : List ObjectId) (place count : ℕ) : Type 0 where
  pub begins : (c : ObjectId) → IsTrue (is_one_of tips c) → IsTrue (is_one_of list c)
  pub named : (c : ObjectId) → Has h c → IsTrue (is_one_of list c)
  pub closed : (a c : ObjectId) → IsTrue (is_one_of (parents_in (entry_at h a)) c) → IsTrue (is_one_of list c)
  pub read : (c : ObjectId) → IsTrue (is_one_of (take place list) c) → Has h c
  pub led : (c : ObjectId) → IsTrue (is_one_of list c) → IsLed tips h c
  pub size : HasSize (Has h) count

-- One commit was added to the history h, and its parents to the list.
pub record Reads (h : History) (list : List ObjectId) (id : ObjectId) (more : History) (longer : List ObjectId) : Type 0 where
  pub commit : Entry
  pub put : (q : ObjectId) → entry_at more q ≡ cond (same_id id q) (Some commit) (entry_at h q)
  pub listed : longer ≡ list ++ commit.parents
