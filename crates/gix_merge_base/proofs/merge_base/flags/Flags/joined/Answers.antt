use Rattle.gix_merge_base.proofs.Bits.{marks-joined}
use Rattle.gix_merge_base.proofs.merge_base.flags.Flags.joined.Goals as goal

pub returns : goal.returns
returns c = marks-joined c.args.self.0 c.args.old.0
