use Rattle.std.proofs.Common.{rules}
use Rattle.gix_c_core.proofs.chain.read_chain.Goals as goal

pub returns-in-Ok-open-clause-commits : goal.returns-in-Ok-open-clause-commits
returns-in-Ok-open-clause-commits c = λ q. let at = c.in-Ok-open.ensures.commits q in search rules
