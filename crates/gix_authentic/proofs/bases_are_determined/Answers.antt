use Rattle.gix_authentic.proofs.Holds.{bases}
use Rattle.gix_authentic.proofs.bases_are_determined.Goals as goal

pub returns : goal.returns
returns c = bases
