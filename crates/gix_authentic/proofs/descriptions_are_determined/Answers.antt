use Rattle.gix_authentic.proofs.Holds.{descriptions}
use Rattle.gix_authentic.proofs.descriptions_are_determined.Goals as goal

pub returns : goal.returns
returns c = descriptions
