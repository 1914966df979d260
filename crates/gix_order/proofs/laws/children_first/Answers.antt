use Rattle.gix_order.proofs.OrderLawProofs.{children_first_proof}
use Rattle.gix_order.proofs.laws.children_first.Goals as goal

pub returns : goal.returns
returns c = children_first_proof
