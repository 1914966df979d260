use Rattle.gix_merge_base.proofs.Reached.{same_both_ways}
use Rattle.gix_merge_base.proofs.laws.ancestors_are_antisymmetric.Goals as goal

pub returns : goal.returns
returns c = same_both_ways
