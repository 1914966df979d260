use Rattle.std.proofs.Common.{◌≡◌, ◌++◌, ◌∙◌, refl, rules, Some, length, ◌≤◌, arith}
use Rattle.gix_revwalk.specs.Nodes.{pair_of, mark_of}
use Rattle.gix_revwalk.proofs.Places.{each-at}
use Rattle.gix_revwalk.proofs.NodeSteps.{item-read, node-id, nodes-set, map-kept}
use Rattle.gix_revwalk.proofs.Growth.{nodes-edges, row-new, same-view}
use Rattle.gix_revwalk.proofs.numbers.remember.Goals as goal

pub invariant_of-graph-2 : goal.invariant_of-graph-2
invariant_of-graph-2 g c =
    let ns = c.graph.inside.nodes.items in
    let k = c.place.result in
    let n = c.index_mut-node.result.now in
    let w = record n { row = Some c.in-Ok.kept } in
    let lt = rw (← c.graph.view_is) at c.requires.held in
    let at = item-read ns k _ n lt c.place.ensures c.index_mut-node.ensures.value in
    let items : c.extend_from_slice.new.self.items ≡ c.graph.inside.edges.items ++ c.args.row.now = search rules in
    let row = rw (← c.graph.view_is, ← c.place.ensures) at c.requires.row in
    let count = rw (← c.graph.view_is, ← c.place.ensures) at c.parent_count.ensures in
    let full : length c.args.row.now ≡ c.parent_count.result = omega (arith, c.if-row-parent_count.false) in
    rw (items, map-kept pair_of ns k n w at refl) (
      c.graph.invariant.0,
      nodes-set _ ns _ _ _ k n w (nodes-edges _ ns _ c.graph.inside.edges.items c.args.row.now _ c.graph.invariant.1) at refl
          (row-new _ _ c.graph.inside.edges.items c.args.row.now n.id c.in-Ok.kept.start c.in-Ok.kept.len (c.in-Ok.ensures.start ∙ c.len-start.ensures ∙ c.graph.inside.edges.ok.0) c.in-Ok.ensures.len (row n.id (node-id ns k n at)) (full ∙ count n.id (node-id ns k n at)))
          (each-at (λ m. m.turn ≤ c.graph.inside.turn) ns k n c.graph.invariant.1.turns at),
    )

pub returns : goal.returns
returns g c =
    let ns = c.graph.inside.nodes.items in
    let k = c.place.result in
    let n = c.index_mut-node.result.now in
    let w = record n { row = Some c.in-Ok.kept } in
    let lt = rw (← c.graph.view_is) at c.requires.held in
    let at = item-read ns k _ n lt c.place.ensures c.index_mut-node.ensures.value in
    same-view _ _ refl (map-kept pair_of ns k n w at refl) (map-kept (mark_of c.graph.inside.turn) ns k n w at refl) ∙ c.graph.view_is

pub returns-then-row-parent_count : goal.returns-then-row-parent_count
returns-then-row-parent_count g c = rw (← c.graph.view_is) refl

pub returns-in_default : goal.returns-in_default
returns-in_default g c = rw (← c.graph.view_is) refl

pub returns-then-is_err : goal.returns-then-is_err
returns-then-is_err g c = rw (← c.graph.view_is) refl
