use Rattle.std.proofs.Common.{refl}
use Rattle.gix_base.proofs.hash.ObjectId.write_hex.Goals as goal

pub returns-clause-written : goal.returns-clause-written
returns-clause-written c = rw (c.copy_from_slice.ensures.after, c.digits.ensures) refl
