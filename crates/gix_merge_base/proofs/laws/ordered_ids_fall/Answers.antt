use Rattle.gix_merge_base.proofs.Orders.{ordered_falls}
use Rattle.gix_merge_base.proofs.laws.ordered_ids_fall.Goals as goal

pub returns : goal.returns
returns c = ordered_falls
