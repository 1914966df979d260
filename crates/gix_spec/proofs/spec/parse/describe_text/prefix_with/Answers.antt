use Rattle.std.proofs.Common.{refl}
use Rattle.gix_spec.proofs.Describing.{prefix_with-some}
use Rattle.gix_spec.proofs.spec.parse.describe_text.prefix_with.Goals as goal

pub returns-in-Ok : goal.returns-in-Ok
returns-in-Ok c = rw (prefix_with-some c.args.digits.now _ (c.in-Ok.ensures.read.0 refl), c.in-Ok.ensures.shows) refl
