use Rattle.gix_merge_base.proofs.Octopus.{bases_cover}
use Rattle.gix_merge_base.proofs.laws.bases_cover.Goals as goal

pub returns : goal.returns
returns c = bases_cover
