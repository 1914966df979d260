use Rattle.std.proofs.Common.{◌≡◌, ◌-◌, length, None}
use Rattle.gix_revwalk.specs.Followed.{followed}
use Rattle.gix_describe.specs.Asks.{Asks, IsWalkRefused}
use Rattle.gix_describe.specs.Order.{PutBack}
use Rattle.gix_describe.specs.WalkState.{Completes}
use Rattle.gix_describe.proofs.describe.walk.Walk.complete.Given as goal

abbrev pub invariant-loop-met : goal.invariant-loop-met
invariant-loop-met g l = record {
  completes : (cut : PutBack) → Completes l.search.tie (followed l.search.first_parent (g.S.Find.history l.fn.graph.source)) l.search.start l.place l.count cut l.fn.self l.fn.graph
      → Completes l.search.tie (followed l.search.first_parent (g.S.Find.history l.fn.graph.source)) l.search.start l.place l.depth cut l.self l.graph;
  candidates : l.self.candidates ≡ l.fn.self.candidates;
  asked : Asks g.S.Find.history g.S.Find.fault_count (IsWalkRefused (followed l.search.first_parent (g.S.Find.history l.fn.graph.source)) l.search.start) l.fn.graph.source l.graph.source None;
}

abbrev pub decreases-loop-met : goal.decreases-loop-met
decreases-loop-met g l = length (followed l.search.first_parent (g.S.Find.history l.graph.source)) - l.self.seen
