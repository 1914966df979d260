use Rattle.gix_merge_base.proofs.Orders.{ordered_bases}
use Rattle.gix_merge_base.proofs.laws.ordered_bases_are_one.Goals as goal

pub returns : goal.returns
returns c = ordered_bases
