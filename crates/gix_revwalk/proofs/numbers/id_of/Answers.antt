use Rattle.gix_revwalk.proofs.Places.{place-once}
use Rattle.gix_revwalk.proofs.NodeSteps.{item-read, node-id}
use Rattle.gix_revwalk.proofs.numbers.id_of.Goals as goal

pub returns-clause-named : goal.returns-clause-named
returns-clause-named g c =
    let lt = rw (← c.graph.view_is) at c.requires in
    let at = item-read c.graph.inside.nodes.items c.place.result _ c.index.result.now lt c.place.ensures c.index.ensures in
    rw (← c.graph.view_is, ← c.place.ensures) (node-id c.graph.inside.nodes.items c.place.result c.index.result.now at)

pub returns-clause-number : goal.returns-clause-number
returns-clause-number g c =
    let lt = rw (← c.graph.view_is) at c.requires in
    let at = item-read c.graph.inside.nodes.items c.place.result _ c.index.result.now lt c.place.ensures c.index.ensures in
    rw (← c.graph.view_is, ← c.place.ensures) (place-once _ c.graph.invariant.1.once c.place.result c.index.result.now.id (node-id c.graph.inside.nodes.items c.place.result c.index.result.now at))
