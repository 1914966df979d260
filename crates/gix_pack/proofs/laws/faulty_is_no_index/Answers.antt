use Rattle.gix_pack.proofs.Faults.{no-index}
use Rattle.gix_pack.proofs.laws.faulty_is_no_index.Goals as goal

pub returns : goal.returns
returns c = no-index
