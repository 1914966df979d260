use Rattle.std.proofs.Common.{subst, refl}
use Rattle.std.proofs.lemmas.List.{take_all}
use Rattle.gix_order.specs.Orders.{listed}
use Rattle.gix_order.specs.Walks.{Meets}
use Rattle.gix_order.proofs.Meeting.{meets_none, meets_more}
use Rattle.gix_order.proofs.walk.Walk.meet_parents.Goals as goal

pub loop-parent-init : goal.loop-parent-init
loop-parent-init c = meets_none (listed c.args.commits.now) c.args.self.now

pub loop-parent-preserved : goal.loop-parent-preserved
loop-parent-preserved c =
    meets_more (listed c.args.commits.now) c.args.parents.now c.loop-parent.parent-index _ c.args.self.now c.loop-parent.self c.meet.new.self c.loop-parent-test.true refl c.loop-parent.invariant c.in_ok-meet.ensures

pub returns : goal.returns
returns c =
    subst (λ z. Meets (listed c.args.commits.now) z c.args.self.now c.loop-parent.self) (take_all c.loop-parent.parent-index c.args.parents.now c.loop-parent-test.false) c.loop-parent.invariant
