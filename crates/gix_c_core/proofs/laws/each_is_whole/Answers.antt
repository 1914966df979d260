use Rattle.gix_c_core.proofs.Wholes.{each-is-whole}
use Rattle.gix_c_core.proofs.laws.each_is_whole.Goals as goal

pub returns : goal.returns
returns c = each-is-whole
