use Rattle.std.proofs.Common.{take}
use Rattle.gix_order.specs.Orders.{listed, places}
use Rattle.gix_order.specs.Walks.{Meets}
use Rattle.gix_order.proofs.walk.Walk.meet_list.Given as goal

abbrev pub invariant-loop-k : goal.invariant-loop-k
invariant-loop-k l = Meets (listed l.commits) (take l.k (places l.fn.order (listed l.commits).count)) l.fn.self l.self
