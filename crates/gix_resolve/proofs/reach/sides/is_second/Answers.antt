use Rattle.std.proofs.Common.{◌∙◌}
use Rattle.gix_merge_base.proofs.Bits.{test-two}
use Rattle.gix_resolve.proofs.reach.sides.is_second.Goals as goal

pub returns : goal.returns
returns c = c.contains.ensures tt ∙ test-two c.args.marks.0
