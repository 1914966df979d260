use Rattle.gix_order.proofs.OrderLawProofs.{none_lost_proof}
use Rattle.gix_order.proofs.laws.none_lost.Goals as goal

pub returns : goal.returns
returns c = none_lost_proof
