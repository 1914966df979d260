use Rattle.gix_resolve.proofs.ReachFront.{one_left}
use Rattle.gix_resolve.proofs.reach.front.pop_greatest.Goals as goal

pub returns-in-Some-pop_front-clause-taken : goal.returns-in-Some-pop_front-clause-taken
returns-in-Some-pop_front-clause-taken g c =
    rw (c.in_default.ensures.items, c.in-Some-pop_front.ensures.items) (one_left c.pop_front.new.self.items c.args.waiting.now.items c.pop_front-2.new.self.items c.in-Some-pop_front.number)
