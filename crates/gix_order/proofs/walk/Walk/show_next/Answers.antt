use Rattle.std.proofs.Common.{refl}
use Rattle.gix_order.specs.Orders.{listed}
use Rattle.gix_order.proofs.Showing.{none_waits, shows_next}
use Rattle.gix_order.proofs.walk.Walk.show_next.Goals as goal

pub returns-in_default : goal.returns-in_default
returns-in_default c = λ order b. none_waits order (listed c.args.commits.now) c.args.self.now _ b c.in_default.ensures.none refl

pub returns : goal.returns
returns c = λ order b.
    shows_next order (listed c.args.commits.now) c.args.self.now _ c.meet_parents.new.self c.in-Some.free c.parents.result.now b
    c.in-Some.ensures.taken c.in-Some.ensures.ahead c.pop.ensures.kept c.pop.ensures.sound refl refl c.in_ok-push.ensures.items c.parents.ensures c.in_ok-meet_parents.ensures
