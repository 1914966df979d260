use Rattle.std.proofs.Common.{sym}
use Rattle.gix_base.proofs.hash.Prefix.as_oid.Goals as goal

pub returns : goal.returns
returns c = sym c.args.self.now.zeros
