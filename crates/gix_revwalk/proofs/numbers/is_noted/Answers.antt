use Rattle.gix_revwalk.proofs.NodeSteps.{item-read}
use Rattle.gix_revwalk.proofs.Growth.{id-here}
use Rattle.gix_revwalk.proofs.Noted.{noted-here}
use Rattle.std.proofs.Common.{sym, refl}
use Rattle.gix_revwalk.proofs.numbers.is_noted.Goals as goal

pub returns : goal.returns
returns g c id is =
    let ns = c.graph.inside.nodes.items in
    let k = c.place.result in
    let n = c.index.result.now in
    let lt = rw (← c.graph.view_is) at c.requires in
    let at = item-read ns k _ n lt c.place.ensures c.index.ensures in
    let same = id-here ns k n id at (rw (← c.graph.view_is, ← c.place.ensures) at is) in
    rw (← c.graph.view_is) (sym (noted-here _ ns _ _ _ k n id _ c.graph.invariant.1 at same refl))
