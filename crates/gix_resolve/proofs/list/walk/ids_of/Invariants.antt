use Rattle.std.proofs.Common.{◌≡◌, take}
use Rattle.gix_merge_base.specs.PaintQueue.{ids_at}
use Rattle.gix_resolve.proofs.list.walk.ids_of.Given as goal

abbrev pub invariant-loop-number : goal.invariant-loop-number
invariant-loop-number g l = l.ids.items ≡ take l.number-index (ids_at l.graph l.numbers)
