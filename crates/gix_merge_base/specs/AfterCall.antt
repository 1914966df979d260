-- How a call leaves its graph.
use Rattle.std.specs.Prelude.{ℕ, List, Result, IfErr, ◌⊎◌}
use Rattle.gix_base.specs.declared.hash.ObjectId.{ObjectId}
use Rattle.gix_revwalk.specs.History.{History}
use Rattle.gix_revwalk.specs.Graph.{Graphed}
use Rattle.gix_revwalk.specs.GraphAfter.{GraphAfter}
use Rattle.gix_revwalk.specs.declared.graph.commit.Commit.{Commit}
use Rattle.gix_merge_base.specs.Painting.{MayBeMetFrom}
use Rattle.gix_merge_base.specs.PaintQueue.{IsHeld}
use Rattle.gix_merge_base.specs.Refusals.{HasInsertText, is_source_fault}
use Rattle.gix_merge_base.specs.declared.merge_base.flags.Flags.{Flags}
use Rattle.gix_merge_base.specs.declared.merge_base.error.Error.{Error}

-- What the graph n holds and m does not is one of ids, or an ancestor of one of them.
pub record LoadsFrom {S T : Type 0} (h : History) (ids : List ObjectId) (m n : Graphed S T) : Type 0 where
  pub held : (q : ObjectId) → IsHeld n q → IsHeld m q ⊎ MayBeMetFrom h ids q

module _ {S A T : Type 0} (history : S → History) (faults : S → ℕ) where
  -- The graph is as GraphAfter says of a call that returned r. If r is a source error, then it has
  -- one of the two texts.
  pub record AfterCall (before after : Graphed S (Commit Flags A)) (r : Result T Error) : Type 0 where
    pub graph : GraphAfter history faults is_source_fault before after r
    pub cause : IfErr r HasInsertText
