use Rattle.gix_date.proofs.Apart as apart
use Rattle.gix_date.proofs.laws.forms_are_apart.Goals as goal

pub returns : goal.returns
returns c = apart.forms_are_apart
