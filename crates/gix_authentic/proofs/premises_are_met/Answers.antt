use Rattle.gix_authentic.proofs.Sound.{cycles, ordered}
use Rattle.gix_authentic.proofs.premises_are_met.Goals as goal

pub returns-clause-acyclic : goal.returns-clause-acyclic
returns-clause-acyclic c = cycles

pub returns-clause-ordered : goal.returns-clause-ordered
returns-clause-ordered c = ordered
