use Rattle.std.proofs.Common.{◌≡◌, ◌+◌, ◌-◌, length}
use Rattle.gix_commitgraph.specs.FileCommits.{edge_list}
use Rattle.gix_commitgraph.proofs.commit_graph.check.list_end.Given as goal

abbrev pub invariant-loop-k : goal.invariant-loop-k
invariant-loop-k l =
    l.k + length (edge_list l.bytes l.l l.k (l.l.edge_count - l.k))
    ≡ l.start + length (edge_list l.bytes l.l l.start (l.l.edge_count - l.start))
