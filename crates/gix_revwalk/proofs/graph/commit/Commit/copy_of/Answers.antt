use Rattle.std.proofs.Common.{rules}
use Rattle.gix_revwalk.proofs.graph.commit.Commit.copy_of.Goals as goal

pub returns-clause-entry : goal.returns-clause-entry
returns-clause-entry g c = search rules
