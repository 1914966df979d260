use Rattle.std.proofs.Common.{◌∙◌}
use Rattle.gix_merge_base.proofs.Bits.{test-stale}
use Rattle.gix_merge_base.proofs.merge_base.flags.Flags.is_stale.Goals as goal

pub returns : goal.returns
returns c = c.contains.ensures tt ∙ test-stale c.args.self.0
