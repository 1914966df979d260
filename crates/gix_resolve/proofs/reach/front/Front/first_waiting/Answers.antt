use Rattle.std.proofs.Common.{refl, arith}
use Rattle.gix_resolve.proofs.ReachFront.{first_among}
use Rattle.gix_resolve.proofs.reach.front.Front.first_waiting.Goals as goal

pub returns-in-Some : goal.returns-in-Some
returns-in-Some g c k all =
    first_among k c.self.inside.hidden.items c.self.inside.waiting.items c.self.inside.greatest.items _ c.self.inside.others (omega (arith, c.self.inside.waiting.ok.0, c.in-Some.ensures.variant.0 refl)) c.in-Some.ensures.lookup (rw c.self.view_is all)
