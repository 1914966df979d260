use Rattle.std.proofs.Common.{◌≡◌, ◌∙◌, sym, subst, Some, map}
use Rattle.std.specs.Map.{lookup}
use Rattle.gix_revwalk.specs.History.{same_id}
use Rattle.gix_revwalk.specs.Nodes.{pair_of}
use Rattle.gix_revwalk.proofs.NodeSteps.{item-read, node-id, held-at}
use Rattle.gix_revwalk.proofs.numbers.value.Goals as goal

pub returns-clause-agrees : goal.returns-clause-agrees
returns-clause-agrees g c id is =
    let ns = c.graph.inside.nodes.items in
    let k = c.place.result in
    let n = c.index.result.now in
    let lt = rw (← c.graph.view_is) at c.requires in
    let at = item-read ns k _ n lt c.place.ensures c.index.ensures in
    let here = rw (← c.graph.view_is, ← c.place.ensures) at is in
    let same : Some n.id ≡ Some id = sym (node-id ns k n at) ∙ here in
    rw (← c.graph.view_is) (c.graph.invariant.0 id n.value (subst (λ i. lookup (same_id i) (map pair_of ns) ≡ Some n.value) (let e : n.id ≡ id = cc in e) (held-at _ ns _ _ _ k n c.graph.invariant.1 at)))
