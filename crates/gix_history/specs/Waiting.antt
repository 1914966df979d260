-- Commits that wait for their parents.
use Rattle.std.specs.Prelude.{◌≡◌, ℕ, ◌≤◌, ◌<◌, IsTrue, take, length}
use Rattle.gix_base.specs.declared.hash.ObjectId.{ObjectId}
use Rattle.gix_revwalk.specs.Held.{entry_of}
use Rattle.gix_revwalk.specs.History.{History, Has, generation_of, is_one_of}
use Rattle.gix_history.specs.Origins.{IsCommitOf}
use Rattle.gix_history.specs.declared.loaded.Pending.{Pending}

-- The history h has the commit id, with a level less than n.
pub record IsBelow (h : History) (n : ℕ) (id : ObjectId) : Type 0 where
  pub has : Has h id
  pub less : generation_of h id < n

-- The commit p is authentic. The history h has as many of its parents as are settled, counted from
-- the first one, each with a level less than that of p.
pub record IsPending {A : Type 0} (h : History) (p : Pending A) : Type 0 where
  pub within : p.settled ≤ length p.commit.parents.items
  pub below : (q : ObjectId) → IsTrue (is_one_of (take p.settled p.commit.parents.items) q) → IsBelow h p.level q
  pub authentic : IsCommitOf p.id (entry_of p.commit)

-- The commit q is the commit p; only its level and the number of its settled parents may differ.
pub record IsSame {A : Type 0} (p q : Pending A) : Type 0 where
  pub id : q.id ≡ p.id
  pub commit : q.commit ≡ p.commit
