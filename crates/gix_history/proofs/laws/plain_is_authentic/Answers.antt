use Rattle.gix_history.proofs.Plain.{plain-is-authentic}
use Rattle.gix_history.proofs.laws.plain_is_authentic.Goals as goal

pub returns : goal.returns
returns c = plain-is-authentic
