use Rattle.bitflags.proofs.OnLiterals.{bitflags_on_literals}
use Rattle.gix_merge_base.proofs.laws.flags.all.Goals as goal

pub returns : goal.returns
unfolding bitflags_on_literals
returns c = c.all.ensures tt
