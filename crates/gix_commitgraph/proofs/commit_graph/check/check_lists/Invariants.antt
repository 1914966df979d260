use Rattle.std.proofs.Common.{ℕ, ◌<◌}
use Rattle.gix_commitgraph.specs.FileChecks.{EndsBefore}
use Rattle.gix_commitgraph.specs.FileLists.{IsFree}
use Rattle.gix_commitgraph.proofs.commit_graph.check.check_lists.Given as goal

abbrev pub invariant-loop-i : goal.invariant-loop-i
invariant-loop-i l = record {
  free : IsFree l.bytes l.l l.i l.free;
  lists : (i j : ℕ) → i < j → j < l.i → EndsBefore l.bytes l.l i j;
}
