-- How a call leaves its graph.
use Rattle.std.specs.Prelude.{◌≡◌, ℕ, Bool}
use Rattle.gix_revwalk.specs.History.{History}
use Rattle.gix_revwalk.specs.Graph.{Graphed, KeepsHeld}
use Rattle.gix_revwalk.specs.Faults.{count_after}

-- `is_fault` says of an answer whether it is an error because the source failed.
module _ {S T R : Type 0} (history : S → History) (faults : S → ℕ) (is_fault : R → Bool) where
  -- The graph after a call that answered r. It has the same history and holds all that it held. The
  -- fault count has grown by one failure if r is an error because the source failed, and is
  -- unchanged otherwise.
  pub record GraphAfter (before after : Graphed S T) (r : R) : Type 0 where
    pub same_history : history after.source ≡ history before.source
    pub count : faults after.source ≡ count_after (is_fault r) (faults before.source)
    pub held : KeepsHeld before after
