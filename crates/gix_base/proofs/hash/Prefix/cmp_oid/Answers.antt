use Rattle.std.proofs.Common.{sym}
use Rattle.gix_base.proofs.PrefixBack.{length-prefix_text}
use Rattle.gix_base.proofs.hash.Prefix.cmp_oid.Goals as goal

pub returns : goal.returns
returns c = rw (length-prefix_text c.args.self.now, sym c.digits-own.ensures, sym c.digits-others.ensures) c.cmp.ensures
