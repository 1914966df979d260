use Rattle.std.proofs.Common.{◌≡◌, ◌∙◌, refl, ap, sym, Some}
use Rattle.std.specs.Option.{option_map}
use Rattle.gix_revwalk.specs.Nodes.{pair_of, mark_of}
use Rattle.gix_revwalk.proofs.Places.{item_at-map}
use Rattle.gix_revwalk.proofs.NodeSteps.{item-read, node-id, nodes-value, value-set, node_ids-set, map-kept, length-pairs-set}
use Rattle.gix_revwalk.proofs.numbers.put.Goals as goal

pub invariant_of-graph : goal.invariant_of-graph
invariant_of-graph g c =
    let lt = rw (← c.graph.view_is) at c.requires in
    let at = item-read c.graph.inside.nodes.items c.place.result _ c.index_mut-node.result.now lt c.place.ensures c.index_mut-node.ensures.value in
    ((λ id x e. tt), nodes-value _ c.graph.inside.nodes.items _ _ _ c.place.result c.index_mut-node.result.now c.args.value c.graph.invariant.1 at)

pub returns-clause-old : goal.returns-clause-old
returns-clause-old g c =
    let lt = rw (← c.graph.view_is) at c.requires in
    let at = item-read c.graph.inside.nodes.items c.place.result _ c.index_mut-node.result.now lt c.place.ensures c.index_mut-node.ensures.value in
    rw (← c.graph.view_is, ← c.place.ensures) (ap (option_map (λ e. e.1)) (item_at-map pair_of c.graph.inside.nodes.items c.place.result ∙ ap (option_map pair_of) at))

pub returns-clause-put : goal.returns-clause-put
returns-clause-put g c =
    let lt = rw (← c.graph.view_is) at c.requires in
    let ns = c.graph.inside.nodes.items in
    let k = c.place.result in
    let n = c.index_mut-node.result.now in
    let at = item-read ns k _ n lt c.place.ensures c.index_mut-node.ensures.value in
    rw (← c.graph.view_is, ← c.place.ensures) record {
      source = refl;
      ids = node_ids-set ns k n (record n { value = c.args.value }) at refl;
      marked = map-kept (mark_of c.graph.inside.turn) ns k n (record n { value = c.args.value }) at refl;
      held = λ id is q. value-set _ ns _ _ _ k n (record n { value = c.args.value }) id c.graph.invariant.1 at refl (let e : Some n.id ≡ Some id = sym (node-id ns k n at) ∙ is in cc) q;
      len = length-pairs-set ns k (record n { value = c.args.value });
    }
