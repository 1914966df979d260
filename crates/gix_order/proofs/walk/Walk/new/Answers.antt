use Rattle.std.proofs.Common.{refl}
use Rattle.gix_order.specs.Orders.{listed}
use Rattle.gix_order.proofs.Showing.{begins}
use Rattle.gix_order.proofs.walk.Walk.new.Goals as goal

pub returns : goal.returns
returns c =
    begins c.args.order (listed c.args.commits.now) _ c.meet_list.new.self c.in_ok-meetings.ensures.len c.in_ok-meetings.ensures.links
    c.new.ensures.empty c.new.ensures.kept c.new.ensures.sound refl c.new-2.ensures.items c.in_ok-meet_list.ensures
