-- Partial histories, of which not all commits were put in.
use Rattle.std.specs.Prelude.{◌≡◌, ◌⊎◌, ◌++◌, ℤ, Bool, true, false, IsTrue, Option, Some, None}
use Rattle.gix_base.specs.declared.hash.ObjectId.{ObjectId}
use Rattle.gix_revwalk.specs.History.{History as Commits, Entry, Has, entry_at}
use Rattle.gix_c_core.specs.Behind.{commits_in}
use Rattle.gix_c_core.specs.declared.extent.Extent.{Extent}
use Rattle.gix_c_core.specs.declared.extent.Extent.TheVariants.{Complete, Partial}
use Rattle.gix_c_core.specs.declared.handle.Handle.{Handle}
use Rattle.gix_c_core.specs.declared.history.History.{History}
use Rattle.gix_c_core.specs.declared.status.TheConstants.{OUT_OF_MEMORY, WANTS}

-- The whole history, if the commits of h were put in. A complete history has these only. A partial
-- one also has the commits of beyond; if both have an id, the commit of h counts.
abbrev pub whole : Extent → (h beyond : Commits) → Commits
whole Complete h beyond = h
whole (Partial wanted) h beyond = h ++ beyond

-- The history more has the commits of h: under the id of each it has the same one.
abbrev pub HasAllOf : (more h : Commits) → Type 0
HasAllOf more h = (q : ObjectId) (commit : Entry) → entry_at h q ≡ Some commit → entry_at more q ≡ Some commit

-- If the history more has the commits of h, then h followed by more has the same commit under each
-- id as more. The whole history of a partial one can therefore be any history that has the commits
-- that were put in.
abbrev pub EachIsWhole : Type 0
EachIsWhole = (h more : Commits) → HasAllOf more h → (q : ObjectId) → entry_at (h ++ more) q ≡ entry_at more q

-- The whole history of v, with the commits of beyond if v is partial.
abbrev pub whole_in : History → Commits → Commits
whole_in v beyond = whole v.extent (commits_in v) beyond

-- The whole history behind a handle, with the commits of beyond if it is partial.
abbrev pub whole_of : Handle → Commits → Commits
whole_of handle beyond = whole_in handle.value beyond

-- The commit that was wanted last, if the history is partial and one was.
abbrev pub wanted_in : Extent → Option ObjectId
wanted_in Complete = None
wanted_in (Partial wanted) = wanted

-- Whether a history is partial.
abbrev pub is_partial : Extent → Bool
is_partial Complete = false
is_partial (Partial wanted) = true

-- The history new notes as wanted a commit that old does not have, neither in its files nor
-- inserted.
pub record Wants (old new : History) : Type 0 where
  pub wanted : ObjectId
  pub noted : new.extent ≡ Partial (Some wanted)
  pub lacking : ¬ Has (commits_in old) wanted

-- The code says why a question has no answer. Either an allocation failed, and what is wanted is
-- unchanged. Or the question wants a commit.
abbrev pub IsTold : ℤ → (old new : History) → Type 0
IsTold code old new = ((code ≡ OUT_OF_MEMORY) × (new.extent ≡ old.extent)) ⊎ ((code ≡ WANTS) × Wants old new)

-- The code says why a question has no answer. It is GIX_WANTS only if the history is partial.
abbrev pub IsUnanswered : ℤ → (old new : History) → Type 0
IsUnanswered code old new = IsTold code old new × (code ≡ WANTS → IsTrue (is_partial old.extent))
