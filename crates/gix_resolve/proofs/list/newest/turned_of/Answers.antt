use Rattle.std.proofs.Common.{ap, map, ◌∙◌}
use Rattle.gix_resolve.specs.Newest.{turned_for}
use Rattle.gix_resolve.proofs.ListWalks.{all-taken}
use Rattle.std.proofs.Common.{◌<◌, arith, get_or}
use Rattle.gix_revwalk.specs.Graph.{held_len}
use Rattle.gix_revwalk.specs.Number.{place_in}
use Rattle.gix_merge_base.specs.PaintQueue.{id_at}
use Rattle.gix_merge_base.proofs.Listed.{in-item}
use Rattle.gix_merge_base.proofs.Numbered.{named-id}
use Rattle.gix_resolve.proofs.Newest.{turned_more}
use Rattle.gix_resolve.proofs.list.newest.turned_of.Goals as goal

pub turned_with-requires : goal.turned_with-requires
turned_with-requires g c = in-item c.args.graph.now c.args.numbers.now c.loop-number.number-index _ c.requires c.loop-number-test.true

pub loop-number-preserved : goal.loop-number-preserved
loop-number-preserved g c =
    let old = c.args.graph.now in
    let k = place_in (get_or c.args.numbers.now c.loop-number.number-index (record { 0 = 0 })) in
    let within : k < held_len old = in-item old c.args.numbers.now c.loop-number.number-index _ c.requires c.loop-number-test.true in
    record {
      turned = turned_more (g.S.Find.history c.args.graph.now.source) old c.args.numbers.now c.loop-number.number-index _ c.loop-number-test.true (id_at old k) c.turned_with.result c.loop-number.all.items _
          (named-id old k within) c.turned_with.ensures c.loop-number.invariant.turned c.push_reserved.ensures.items;
      len = omega (arith, c.push_reserved.ensures.len, c.loop-number.invariant.len);
      room = omega (arith, c.push_reserved.ensures.capacity, c.loop-number.invariant.room);
    }

pub push_reserved-requires : goal.push_reserved-requires
push_reserved-requires g c = omega (arith, c.loop-number.invariant.len, c.loop-number.invariant.room)

pub returns : goal.returns
returns g c = c.loop-number.invariant.turned ∙ ap (map (turned_for (g.S.Find.history c.args.graph.now.source))) (all-taken c.args.graph.now c.args.numbers.now c.loop-number.number-index (omega arith))

pub offset_bounds-numbers-number-index : goal.offset_bounds-numbers-number-index
offset_bounds-numbers-number-index g c = record { fits = omega arith }
