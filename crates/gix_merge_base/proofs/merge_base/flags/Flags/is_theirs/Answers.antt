use Rattle.std.proofs.Common.{◌∙◌}
use Rattle.gix_merge_base.proofs.Bits.{test-two}
use Rattle.gix_merge_base.proofs.merge_base.flags.Flags.is_theirs.Goals as goal

pub returns : goal.returns
returns c = c.contains.ensures tt ∙ test-two c.args.self.0
