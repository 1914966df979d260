use Rattle.std.proofs.Common.{◌∙◌}
use Rattle.gix_merge_base.proofs.Bits.{test-one}
use Rattle.gix_merge_base.proofs.merge_base.flags.Flags.is_ours.Goals as goal

pub returns : goal.returns
returns c = c.contains.ensures tt ∙ test-one c.args.self.0
