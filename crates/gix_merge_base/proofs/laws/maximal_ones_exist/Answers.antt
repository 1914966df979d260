use Rattle.gix_merge_base.proofs.AmongOnes.{maximal_above, maximal_some}
use Rattle.gix_merge_base.proofs.laws.maximal_ones_exist.Goals as goal

pub returns : goal.returns
returns c = record { above = maximal_above; some = maximal_some }
