use Rattle.std.proofs.Common.{sym}
use Rattle.gix_base.proofs.PrefixBack.{length-prefix_text}
use Rattle.gix_base.proofs.hash.Prefix.hex_len.Goals as goal

pub returns : goal.returns
returns c = sym (length-prefix_text c.args.self.now)
