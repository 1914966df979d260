use Rattle.gix_base.proofs.PrefixBack.{have_full_prefixes}
use Rattle.gix_base.proofs.laws.ids_have_full_prefixes.Goals as goal

pub returns : goal.returns
returns c = have_full_prefixes
