use Rattle.std.proofs.Common.{ℕ, ◌<◌}
use Rattle.gix_commitgraph.specs.FileFormat.{IsRow}
use Rattle.gix_commitgraph.proofs.commit_graph.layout.check_table.Given as goal

abbrev pub invariant-loop-i : goal.invariant-loop-i
invariant-loop-i l = (i : ℕ) → i < l.i → IsRow l.bytes i
