use Rattle.std.proofs.Common.{◌≡◌, ◌-◌}
use Rattle.std.specs.List.{list_all}
use Rattle.gix_commitgraph.specs.FileCommits.{edge_list}
use Rattle.gix_commitgraph.specs.FileLevels.{is_lower}
use Rattle.gix_commitgraph.proofs.commit_graph.levels.are_lower.Given as goal

abbrev pub invariant-loop-k : goal.invariant-loop-k
invariant-loop-k l =
    list_all (is_lower l.bytes l.l l.limit) (edge_list l.bytes l.l l.k (l.l.edge_count - l.k))
    ≡ list_all (is_lower l.bytes l.l l.limit) (edge_list l.bytes l.l l.start (l.l.edge_count - l.start))
