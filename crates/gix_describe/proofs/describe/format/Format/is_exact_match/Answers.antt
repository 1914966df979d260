use Rattle.std.proofs.Common.{refl}
use Rattle.gix_describe.proofs.describe.format.Format.is_exact_match.Goals as goal

pub returns : goal.returns
returns g c = refl
