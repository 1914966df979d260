use Rattle.std.proofs.Common.{◌≡◌, ◌∙◌, refl, ap, Some, map, set, true, cond, None, nat_eq, arith}
use Rattle.std.specs.Option.{option_map}
use Rattle.std.specs.Map.{lookup}
use Rattle.std.proofs.lemmas.Bool.Decides.{nat_tests}
use Rattle.gix_revwalk.specs.History.{same_id}
use Rattle.gix_revwalk.specs.Commit.{agrees_with, with_data}
use Rattle.gix_revwalk.specs.Nodes.{pair_of, mark_of, IsRow, node_ids}
use Rattle.gix_revwalk.proofs.Places.{each-at}
use Rattle.gix_revwalk.proofs.NodeSteps.{item-read, held-at, held-set, value-set, nodes-set, node_ids-set, agree-put}
use Rattle.gix_revwalk.proofs.Given.{marked-set}
use Rattle.gix_revwalk.proofs.Growth.{mark-after, data-after, id-here}
use Rattle.gix_revwalk.proofs.numbers.set_mark.Goals as goal

pub invariant_of-graph : goal.invariant_of-graph
invariant_of-graph g c =
    let ns = c.graph.inside.nodes.items in
    let k = c.place.result in
    let n = c.index_mut-node.result.now in
    let w = record n { turn = c.graph.inside.turn; queued = c.args.mark.queued; value = with_data c.args.mark.marks n.value } in
    let lt = rw (← c.graph.view_is) at c.requires in
    let at = item-read ns k _ n lt c.place.ensures c.index_mut-node.ensures.value in (
      agree-put agrees_with (g.S.Find.history c.graph.inside.source) n.id w.value (λ q. lookup (same_id q) (map pair_of ns)) (λ q. lookup (same_id q) (map pair_of (set ns k w))) c.graph.invariant.0
          (c.graph.invariant.0 n.id n.value (held-at _ ns _ _ _ k n c.graph.invariant.1 at)) (held-set _ ns _ _ _ k n w c.graph.invariant.1 at refl),
      nodes-set _ ns _ _ _ k n w c.graph.invariant.1 at refl (each-at (λ m. IsRow (g.S.Find.history c.graph.inside.source) (node_ids ns) c.graph.inside.edges.items m.id m.row) ns k n c.graph.invariant.1.rows at) (omega arith),
    )

pub returns : goal.returns
returns g c =
    let ns = c.graph.inside.nodes.items in
    let k = c.place.result in
    let n = c.index_mut-node.result.now in
    let w = record n { turn = c.graph.inside.turn; queued = c.args.mark.queued; value = with_data c.args.mark.marks n.value } in
    let lt = rw (← c.graph.view_is) at c.requires in
    let at = item-read ns k _ n lt c.place.ensures c.index_mut-node.ensures.value in
    let equal : nat_eq c.graph.inside.turn c.graph.inside.turn ≡ true = grind (arith, nat_tests) in
    rw (← c.graph.view_is, ← c.place.ensures) record {
      source = refl;
      ids = node_ids-set ns k n w at refl;
      marks = λ id is q. mark-after (same_id id q) (lookup (same_id q) (map (mark_of c.graph.inside.turn) (set ns k w))) (lookup (same_id q) (map (mark_of c.graph.inside.turn) ns))
          (option_map (λ d. d.«data») (lookup (same_id q) (map pair_of (set ns k w)))) (option_map (λ d. d.«data») (lookup (same_id q) (map pair_of ns))) c.args.mark.marks c.args.mark.queued
          (marked-set _ ns _ _ _ k n w id c.graph.invariant.1 at refl (id-here ns k n id at is) q ∙ ap (λ b. cond (same_id id q) (Some (cond b (Some c.args.mark.queued) None)) (lookup (same_id q) (map (mark_of c.graph.inside.turn) ns))) equal)
          (data-after (same_id id q) (lookup (same_id q) (map pair_of (set ns k w))) (lookup (same_id q) (map pair_of ns)) w.value (value-set _ ns _ _ _ k n w id c.graph.invariant.1 at refl (id-here ns k n id at is) q));
      payload = λ id is q. data-after (same_id id q) (lookup (same_id q) (map pair_of (set ns k w))) (lookup (same_id q) (map pair_of ns)) w.value (value-set _ ns _ _ _ k n w id c.graph.invariant.1 at refl (id-here ns k n id at is) q);
    }
