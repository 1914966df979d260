use Rattle.gix_merge_base.proofs.Bits.{marks-noted}
use Rattle.gix_merge_base.proofs.merge_base.flags.Flags.noted.Goals as goal

pub returns : goal.returns
returns c = marks-noted c.args.self.0
