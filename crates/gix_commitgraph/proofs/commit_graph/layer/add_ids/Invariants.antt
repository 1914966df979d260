use Rattle.std.proofs.Common.{◌≡◌, ℕ, ◌++◌}
use Rattle.gix_revwalk.specs.History.{Entry}
use Rattle.gix_ids.specs.TableIds.{rows_from}
use Rattle.gix_commitgraph.specs.ChainCommits.{ids_of}
use Rattle.gix_commitgraph.proofs.commit_graph.layer.add_ids.Given as goal

abbrev pub invariant-loop-i : goal.invariant-loop-i
invariant-loop-i g l = (f : ℕ → Entry) → l.ids.items ≡ l.fn.ids.items ++ ids_of (rows_from l.bytes l.t f 0 l.i)
