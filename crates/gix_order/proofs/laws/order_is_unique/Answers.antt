use Rattle.gix_order.proofs.OrderLawProofs.{order_is_unique_proof}
use Rattle.gix_order.proofs.laws.order_is_unique.Goals as goal

pub returns : goal.returns
returns c = order_is_unique_proof
