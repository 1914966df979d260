use Rattle.gix_pack.proofs.Parts.{parts-find}
use Rattle.gix_pack.proofs.laws.parts_find.Goals as goal

pub returns : goal.returns
returns c = parts-find
