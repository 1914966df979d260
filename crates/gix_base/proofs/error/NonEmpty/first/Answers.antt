use Rattle.std.proofs.Common.{refl}
use Rattle.gix_base.proofs.error.NonEmpty.first.Goals as goal

pub returns : goal.returns
returns g c = refl
