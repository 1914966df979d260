use Rattle.std.proofs.Common.{arith}
use Rattle.gix_base.proofs.RefusalCounts.{refusals_among_push}
use Rattle.gix_base.proofs.error.Exn.drop.Goals as goal

pub loop-last-smaller : goal.loop-last-smaller
loop-last-smaller c =
    rw c.in-Some.ensures.items (omega (arith, refusals_among_push c.pop.new.self.items c.in-Some.last, c.without_one-causes.ensures))
