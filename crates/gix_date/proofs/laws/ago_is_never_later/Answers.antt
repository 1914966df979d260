use Rattle.gix_date.proofs.Earlier as earlier
use Rattle.gix_date.proofs.laws.ago_is_never_later.Goals as goal

pub returns : goal.returns
returns c = earlier.ago_is_never_later
