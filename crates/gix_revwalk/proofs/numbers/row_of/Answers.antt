use Rattle.gix_revwalk.specs.Nodes.{IsRow, node_ids}
use Rattle.gix_revwalk.proofs.Places.{each-at}
use Rattle.gix_revwalk.proofs.NodeSteps.{item-read}
use Rattle.gix_revwalk.proofs.Growth.{id-here, ids-marks, row-read}
use Rattle.gix_revwalk.proofs.numbers.row_of.Goals as goal

pub returns-in-Some-clause-row : goal.returns-in-Some-clause-row
returns-in-Some-clause-row g c id is =
    let ns = c.graph.inside.nodes.items in
    let k = c.place.result in
    let n = c.index.result.now in
    let h = g.S.Find.history c.graph.inside.source in
    let edges = c.graph.inside.edges.items in
    let lt = rw (← c.graph.view_is) at c.requires in
    let at = item-read ns k _ n lt c.place.ensures c.index.ensures in
    let row = rw c.in-Some.is at (each-at (λ m. IsRow h (node_ids ns) edges m.id m.row) ns k n c.graph.invariant.1.rows at) in
    let same = id-here ns k n id at (rw (← c.graph.view_is, ← c.place.ensures) at is) in
    rw (← c.graph.view_is, row-read c.deref.result.now edges c.in-Some.row.start c.in-Some.row.len c.deref.ensures.value, ← same) row.1

pub returns-in-Some-clause-ids : goal.returns-in-Some-clause-ids
returns-in-Some-clause-ids g c = rw (← c.graph.view_is) (ids-marks c.graph.inside.turn c.graph.inside.nodes.items)

pub returns-in-None-clause-ids : goal.returns-in-None-clause-ids
returns-in-None-clause-ids g c = rw (← c.graph.view_is) (ids-marks c.graph.inside.turn c.graph.inside.nodes.items)
