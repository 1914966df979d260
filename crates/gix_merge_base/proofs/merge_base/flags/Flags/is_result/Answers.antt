use Rattle.std.proofs.Common.{◌∙◌}
use Rattle.gix_merge_base.proofs.Bits.{test-result}
use Rattle.gix_merge_base.proofs.merge_base.flags.Flags.is_result.Goals as goal

pub returns : goal.returns
returns c = c.contains.ensures tt ∙ test-result c.args.self.0
