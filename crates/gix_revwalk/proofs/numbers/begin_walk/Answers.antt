use Rattle.std.proofs.Common.{◌≡◌, ◌∙◌, ap, sym, length, map, ◌<◌, ◌≤◌, ◌+◌, arith, rules, refl}
use Rattle.std.proofs.lemmas.List.{length-map, with_items_is}
use Rattle.gix_revwalk.specs.Nodes.{unturned}
use Rattle.gix_revwalk.proofs.Places.{each-map}
use Rattle.gix_revwalk.proofs.Given.{unmarked, all-unturned, pairs-unturned, unturned-nodes}
use Rattle.gix_revwalk.proofs.Growth.{mark-none}
use Rattle.gix_revwalk.proofs.numbers.begin_walk.Goals as goal

pub returns-in-Some-clause-none : goal.returns-in-Some-clause-none
returns-in-Some-clause-none g c q =
    let ns = c.graph.inside.nodes.items in
    let next : c.in-Some.turn ≡ c.graph.inside.turn + 1 = search rules in
    mark-none _ _ (unmarked c.in-Some.turn ns (each-map (λ n. n.turn ≤ c.graph.inside.turn) (λ n. n.turn < c.in-Some.turn) (λ n k. omega arith) ns c.graph.invariant.1.turns) q)

pub invariant_of-graph-2 : goal.invariant_of-graph-2
invariant_of-graph-2 g c =
    let ns = c.graph.inside.nodes.items in
    let e = rw c.deref_mut.ensures.value at c.forget_turns.ensures in
    let is = with_items_is c.graph.inside.nodes c.forget_turns.new.nodes (ap length e ∙ length-map ns unturned ∙ sym c.graph.inside.nodes.ok.0) ∙ e in
    rw (is, pairs-unturned ns) (c.graph.invariant.0, unturned-nodes _ ns _ _ _ 1 c.graph.invariant.1 (omega arith))

pub returns-clause-held : goal.returns-clause-held
returns-clause-held g c =
    let ns = c.graph.inside.nodes.items in
    let e = rw c.deref_mut.ensures.value at c.forget_turns.ensures in
    let is = with_items_is c.graph.inside.nodes c.forget_turns.new.nodes (ap length e ∙ length-map ns unturned ∙ sym c.graph.inside.nodes.ok.0) ∙ e in
    rw (← c.graph.view_is, is) (pairs-unturned ns)

pub returns-clause-none : goal.returns-clause-none
returns-clause-none g c q =
    let ns = c.graph.inside.nodes.items in
    let e = rw c.deref_mut.ensures.value at c.forget_turns.ensures in
    let is = with_items_is c.graph.inside.nodes c.forget_turns.new.nodes (ap length e ∙ length-map ns unturned ∙ sym c.graph.inside.nodes.ok.0) ∙ e in
    rw is (mark-none _ _ (unmarked 1 (map unturned ns) (all-unturned 1 ns (omega arith)) q))

pub returns-in-Some-clause-source : goal.returns-in-Some-clause-source
returns-in-Some-clause-source g c = rw (← c.graph.view_is) refl

pub returns-in-Some-clause-held : goal.returns-in-Some-clause-held
returns-in-Some-clause-held g c = rw (← c.graph.view_is) refl

pub returns-clause-source : goal.returns-clause-source
returns-clause-source g c = rw (← c.graph.view_is) refl
