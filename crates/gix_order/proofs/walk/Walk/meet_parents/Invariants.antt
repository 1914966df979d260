use Rattle.std.proofs.Common.{take}
use Rattle.gix_order.specs.Orders.{listed}
use Rattle.gix_order.specs.Walks.{Meets}
use Rattle.gix_order.proofs.walk.Walk.meet_parents.Given as goal

abbrev pub invariant-loop-parent : goal.invariant-loop-parent
invariant-loop-parent l = Meets (listed l.commits) (take l.parent-index l.parents) l.fn.self l.self
