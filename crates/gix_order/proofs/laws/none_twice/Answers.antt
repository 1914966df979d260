use Rattle.gix_order.proofs.OrderLawProofs.{none_twice_proof}
use Rattle.gix_order.proofs.laws.none_twice.Goals as goal

pub returns : goal.returns
returns c = none_twice_proof
