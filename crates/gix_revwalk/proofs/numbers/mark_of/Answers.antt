use Rattle.std.proofs.Common.{◌≡◌, sym, true, false, nat_eq, arith}
use Rattle.std.proofs.lemmas.Bool.Decides.{nat_tests}
use Rattle.gix_revwalk.specs.Nodes.{node_ids}
use Rattle.gix_revwalk.proofs.Places.{item_at-read, item_at-within}
use Rattle.gix_revwalk.proofs.NodeSteps.{length-node_ids}
use Rattle.gix_revwalk.proofs.Growth.{id-here, mark-here}
use Rattle.gix_revwalk.proofs.numbers.mark_of.Goals as goal

pub returns-in_default : goal.returns-in_default
returns-in_default g c id is =
    let ns = c.graph.inside.nodes.items in
    let beyond = rw c.deref.ensures.value at c.in_default.ensures.lookup.3 in
    let within = item_at-within (node_ids ns) c.place.result id (rw (← c.graph.view_is, ← c.place.ensures) at is) in
    absurd (omega (arith, beyond, within, length-node_ids ns))

pub returns-then-node-graph : goal.returns-then-node-graph
returns-then-node-graph g c id is =
    let ns = c.graph.inside.nodes.items in
    let k = c.place.result in
    let n = c.in-Some.node.now in
    let at = rw c.deref.ensures.value at (item_at-read c.deref.result.now k n c.in-Some.ensures.lookup.3.0 c.in-Some.ensures.lookup.1) in
    let same = id-here ns k n id at (rw (← c.graph.view_is, ← c.place.ensures) at is) in
    let apart : nat_eq n.turn c.graph.inside.turn ≡ false = grind (arith, nat_tests, c.if-node-graph.true) in
    rw (← c.graph.view_is) (sym (mark-here _ ns _ _ _ k n id false c.graph.invariant.1 at same apart))

pub returns : goal.returns
returns g c id is =
    let ns = c.graph.inside.nodes.items in
    let k = c.place.result in
    let n = c.in-Some.node.now in
    let at = rw c.deref.ensures.value at (item_at-read c.deref.result.now k n c.in-Some.ensures.lookup.3.0 c.in-Some.ensures.lookup.1) in
    let same = id-here ns k n id at (rw (← c.graph.view_is, ← c.place.ensures) at is) in
    let equal : nat_eq n.turn c.graph.inside.turn ≡ true = grind (arith, nat_tests) in
    rw (← c.graph.view_is) (sym (mark-here _ ns _ _ _ k n id true c.graph.invariant.1 at same equal))
