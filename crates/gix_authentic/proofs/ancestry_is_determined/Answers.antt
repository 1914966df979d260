use Rattle.gix_authentic.proofs.Holds.{ancestry}
use Rattle.gix_authentic.proofs.ancestry_is_determined.Goals as goal

pub returns : goal.returns
returns c = ancestry
