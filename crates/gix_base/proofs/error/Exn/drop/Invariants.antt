use Rattle.gix_base.specs.Refusals.{refusals_among}
use Rattle.gix_base.proofs.error.Exn.drop.Given as goal

abbrev pub decreases-loop-last : goal.decreases-loop-last
decreases-loop-last l = refusals_among l.causes.items
