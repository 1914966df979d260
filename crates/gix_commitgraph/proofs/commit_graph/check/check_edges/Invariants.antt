use Rattle.std.proofs.Common.{ℕ, ◌<◌}
use Rattle.gix_commitgraph.specs.FileChecks.{NamesCommit}
use Rattle.gix_commitgraph.proofs.commit_graph.check.check_edges.Given as goal

abbrev pub invariant-loop-k : goal.invariant-loop-k
invariant-loop-k l = (k : ℕ) → k < l.k → NamesCommit l.bytes l.l l.limit k
