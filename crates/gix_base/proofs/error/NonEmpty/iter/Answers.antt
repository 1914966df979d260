use Rattle.std.proofs.Common.{refl}
use Rattle.gix_base.proofs.error.NonEmpty.iter.Goals as goal

pub returns : goal.returns
returns g c = rw (c.iter.ensures.rest, c.deref.ensures.value) refl
