use Rattle.std.proofs.Common.{◌-◌, length, None}
use Rattle.gix_revwalk.specs.Followed.{followed}
use Rattle.gix_describe.specs.Asks.{Asks, IsWalkRefused}
use Rattle.gix_describe.specs.Outcomes.{names_of}
use Rattle.gix_describe.specs.WalkState.{Rests}
use Rattle.gix_describe.proofs.describe.walk.Walk.run.Given as goal

abbrev pub invariant-loop-next : goal.invariant-loop-next
invariant-loop-next g l = record {
  rests : Rests l.search.tie (followed l.search.first_parent (g.S.Find.history l.fn.graph.source)) l.search.start (names_of l.names.entries) l.search.cap l.self l.graph;
  asked : Asks g.S.Find.history g.S.Find.fault_count (IsWalkRefused (followed l.search.first_parent (g.S.Find.history l.fn.graph.source)) l.search.start) l.fn.graph.source l.graph.source None;
}

abbrev pub decreases-loop-next : goal.decreases-loop-next
decreases-loop-next g l = length (followed l.search.first_parent (g.S.Find.history l.graph.source)) - l.self.seen
