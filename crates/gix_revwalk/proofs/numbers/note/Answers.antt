use Rattle.std.proofs.Common.{◌≡◌, refl, true, nat_eq, arith}
use Rattle.std.proofs.lemmas.Bool.Decides.{nat_tests}
use Rattle.gix_revwalk.specs.Nodes.{pair_of, IsRow, node_ids}
use Rattle.gix_revwalk.proofs.Places.{each-at}
use Rattle.gix_revwalk.proofs.NodeSteps.{item-read, nodes-set, map-kept}
use Rattle.gix_revwalk.proofs.Growth.{id-here}
use Rattle.gix_revwalk.proofs.Noted.{noted-set}
use Rattle.gix_revwalk.proofs.numbers.note.Goals as goal

pub invariant_of-graph : goal.invariant_of-graph
invariant_of-graph g c =
    let ns = c.graph.inside.nodes.items in
    let k = c.place.result in
    let n = c.index_mut-node.result.now in
    let w = record n { turn = c.graph.inside.turn; queued = 0 } in
    let lt = rw (← c.graph.view_is) at c.requires in
    let at = item-read ns k _ n lt c.place.ensures c.index_mut-node.ensures.value in (
      rw (map-kept pair_of ns k n w at refl) c.graph.invariant.0,
      nodes-set _ ns _ _ _ k n w c.graph.invariant.1 at refl (each-at (λ m. IsRow (g.S.Find.history c.graph.inside.source) (node_ids ns) c.graph.inside.edges.items m.id m.row) ns k n c.graph.invariant.1.rows at) (omega arith),
    )

pub returns-clause-held : goal.returns-clause-held
returns-clause-held g c =
    let ns = c.graph.inside.nodes.items in
    let k = c.place.result in
    let n = c.index_mut-node.result.now in
    let lt = rw (← c.graph.view_is) at c.requires in
    let at = item-read ns k _ n lt c.place.ensures c.index_mut-node.ensures.value in
    rw (← c.graph.view_is) (map-kept pair_of ns k n (record n { turn = c.graph.inside.turn; queued = 0 }) at refl)

pub returns-clause-noted : goal.returns-clause-noted
returns-clause-noted g c id is q =
    let ns = c.graph.inside.nodes.items in
    let k = c.place.result in
    let n = c.index_mut-node.result.now in
    let w = record n { turn = c.graph.inside.turn; queued = 0 } in
    let lt = rw (← c.graph.view_is) at c.requires in
    let at = item-read ns k _ n lt c.place.ensures c.index_mut-node.ensures.value in
    let equal : nat_eq c.graph.inside.turn c.graph.inside.turn ≡ true = grind (arith, nat_tests) in
    let same = id-here ns k n id at (rw (← c.graph.view_is, ← c.place.ensures) at is) in
    rw (← c.graph.view_is) (noted-set _ ns _ _ _ k n w id c.graph.invariant.1 at refl same equal q)
