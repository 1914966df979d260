use Rattle.gix_order.specs.Orders.{listed}
use Rattle.gix_order.specs.Walks.{IsBetween, unshown}
use Rattle.gix_order.proofs.in_order.Given as goal

abbrev pub invariant-show : goal.invariant-show
invariant-show l = IsBetween l.fn.order (listed l.commits) l.walk

abbrev pub decreases-show : goal.decreases-show
decreases-show l = unshown (listed l.commits) l.walk
