use Rattle.std.proofs.Common.{◌≡◌, ◌++◌, drop}
use Rattle.std.specs.List.{list_all}
use Rattle.gix_commitgraph.specs.ChainLevels.{is_high}
use Rattle.gix_commitgraph.specs.NewerCommits.{in_file}
use Rattle.gix_commitgraph.proofs.commit_graph.falling.are_high.Given as goal

abbrev pub invariant-loop-id : goal.invariant-loop-id
invariant-loop-id g l =
    list_all (is_high (in_file l.commits.file ++ l.commits.newer)) (drop l.id-index l.ids)
    ≡ list_all (is_high (in_file l.commits.file ++ l.commits.newer)) l.ids
