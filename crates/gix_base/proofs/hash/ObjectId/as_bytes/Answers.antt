use Rattle.std.proofs.Common.{refl}
use Rattle.gix_base.proofs.hash.ObjectId.as_bytes.Goals as goal

pub returns : goal.returns
returns c = refl
