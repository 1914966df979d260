use Rattle.std.proofs.Common.{◌≡◌, ◌-◌, ◌++◌, map}
use Rattle.gix_commitgraph.specs.ChainCommits.{id_in}
use Rattle.gix_commitgraph.specs.FileCommits.{edge_list}
use Rattle.gix_commitgraph.proofs.commit_graph.commit.add_edges.Given as goal

abbrev pub invariant-loop-k : goal.invariant-loop-k
invariant-loop-k g l =
    l.ids.items ++ map (id_in l.below l.bytes l.l) (edge_list l.bytes l.l l.k (l.l.edge_count - l.k))
    ≡ l.fn.ids.items ++ map (id_in l.below l.bytes l.l) (edge_list l.bytes l.l l.start (l.l.edge_count - l.start))
