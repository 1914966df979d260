use Rattle.std.proofs.Common.{◌≡◌, ℕ, ◌^◌, ◌<◌, true}
use Rattle.gix_commitgraph.specs.FileCommits.{level_at}
use Rattle.gix_commitgraph.specs.FileLevels.{is_above}
use Rattle.gix_commitgraph.proofs.commit_graph.levels.fall.Given as goal

abbrev pub invariant-loop-i : goal.invariant-loop-i
invariant-loop-i l = record {
  each : (i : ℕ) → i < l.i → is_above l.bytes l.l i ≡ true;
  bounds : (i : ℕ) → i < l.i → level_at l.bytes l.l i < 2 ^ 30;
}
