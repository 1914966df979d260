use Rattle.std.proofs.Common.{◌∙◌}
use Rattle.gix_merge_base.proofs.Bits.{test-stale}
use Rattle.gix_resolve.proofs.reach.sides.is_stale.Goals as goal

pub returns : goal.returns
returns c = c.contains.ensures tt ∙ test-stale c.args.marks.0
