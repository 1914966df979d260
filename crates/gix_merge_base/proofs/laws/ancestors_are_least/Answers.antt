use Rattle.gix_merge_base.proofs.Least.{least}
use Rattle.gix_merge_base.proofs.laws.ancestors_are_least.Goals as goal

pub returns : goal.returns
returns c = least
