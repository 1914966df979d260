use Rattle.gix_commitgraph.specs.NewerCommits.{in_file}
use Rattle.gix_commitgraph.proofs.Grown.{nothing-newer}
use Rattle.gix_commitgraph.proofs.commit_graph.joined.Joined+MemorySource+A.with_seed.Goals as goal

pub returns-clause-commits : goal.returns-clause-commits
returns-clause-commits g c = nothing-newer (in_file c.args.file) c.with_seed.result c.with_seed.ensures.empty
