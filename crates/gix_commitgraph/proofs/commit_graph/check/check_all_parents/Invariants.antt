use Rattle.std.proofs.Common.{ℕ, ◌<◌}
use Rattle.gix_commitgraph.specs.FileChecks.{HasParents}
use Rattle.gix_commitgraph.proofs.commit_graph.check.check_all_parents.Given as goal

abbrev pub invariant-loop-i : goal.invariant-loop-i
invariant-loop-i l = (i : ℕ) → i < l.i → HasParents l.bytes l.l l.limit i
