use Rattle.std.proofs.Common.{◌≡◌, sum_by, take, ◌+◌}
use Rattle.gix_commitgraph.proofs.position.locate.Given as goal

abbrev pub invariant-loop-layer : goal.invariant-loop-layer
invariant-loop-layer g l = sum_by g.F.Counted.commits (take l.layer l.files) + l.row ≡ l.position
