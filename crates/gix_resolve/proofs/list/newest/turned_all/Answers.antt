use Rattle.std.below.core.proofs.iter.Serving.{as_err}
use Rattle.std.proofs.Common.{ap}
use Rattle.std.specs.List.{filter_map}
use Rattle.std.proofs.lemmas.List.{take_all}
use Rattle.gix_merge_base.specs.Candidates.{turned_at}
use Rattle.std.proofs.Common.{◌∙◌, sym, Ok, arith}
use Rattle.gix_resolve.proofs.ListAfter.{after_then, after_ok}
use Rattle.gix_resolve.proofs.Newest.{turned_skip, turned_next}
use Rattle.gix_resolve.proofs.ReachTaken.{more_starts}
use Rattle.gix_resolve.proofs.list.newest.turned_all.Goals as goal

pub loop-id-preserved-in_default : goal.loop-id-preserved-in_default
loop-id-preserved-in_default g c =
    let h = g.S.Find.history c.args.graph.now.source in
    let same = c.loop-id.invariant.after.same_history in
    record {
      turned = turned_skip h c.args.ids.now c.loop-id.id-index _ c.loop-id.all.items c.loop-id-test.true c.loop-id.invariant.turned (sym c.in_default.is ∙ rw same at c.in_ok-place.ensures.turned);
      taken = more_starts h c.args.ids.now c.loop-id.id-index _ c.args.graph.now c.loop-id.graph c.turned.new.graph c.loop-id-test.true c.loop-id.invariant.taken (rw same at c.turned.ensures.taken);
      len = omega (arith, c.loop-id.invariant.len);
      room = c.loop-id.invariant.room;
      after = after_then c.args.graph.now c.loop-id.graph c.turned.new.graph (Ok tt) c.loop-id.invariant.after (after_ok c.loop-id.graph c.turned.new.graph _ c.in_ok-place.ensures.after);
    }

pub loop-id-preserved : goal.loop-id-preserved
loop-id-preserved g c =
    let h = g.S.Find.history c.args.graph.now.source in
    let same = c.loop-id.invariant.after.same_history in
    record {
      turned = turned_next h c.args.ids.now c.loop-id.id-index _ c.in-Some.place c.loop-id.all.items c.push_reserved.new.self.items c.loop-id-test.true c.loop-id.invariant.turned
          (sym c.in-Some.is ∙ rw same at c.in_ok-place.ensures.turned) c.push_reserved.ensures.items;
      taken = more_starts h c.args.ids.now c.loop-id.id-index _ c.args.graph.now c.loop-id.graph c.turned.new.graph c.loop-id-test.true c.loop-id.invariant.taken (rw same at c.turned.ensures.taken);
      len = omega (arith, c.push_reserved.ensures.len, c.loop-id.invariant.len);
      room = omega (arith, c.push_reserved.ensures.capacity, c.loop-id.invariant.room);
      after = after_then c.args.graph.now c.loop-id.graph c.turned.new.graph (Ok tt) c.loop-id.invariant.after (after_ok c.loop-id.graph c.turned.new.graph _ c.in_ok-place.ensures.after);
    }

pub returns-in_err-place-clause-taken : goal.returns-in_err-place-clause-taken
returns-in_err-place-clause-taken g c =
    more_starts (g.S.Find.history c.args.graph.now.source) c.args.ids.now c.loop-id.id-index _ c.args.graph.now c.loop-id.graph c.turned.new.graph c.loop-id-test.true c.loop-id.invariant.taken
    (rw c.loop-id.invariant.after.same_history at c.turned.ensures.taken)

pub returns-clause-taken : goal.returns-clause-taken
returns-clause-taken g c = c.loop-id.invariant.taken

pub returns-clause-turned : goal.returns-clause-turned
returns-clause-turned g c = c.loop-id.invariant.turned ∙ ap (filter_map (turned_at (g.S.Find.history c.args.graph.now.source))) (take_all c.loop-id.id-index c.args.ids.now (omega arith))

pub returns-clause-after : goal.returns-clause-after
returns-clause-after g c = record { same_history = c.loop-id.invariant.after.same_history; count = c.loop-id.invariant.after.count; held = c.loop-id.invariant.after.held }

pub push_reserved-requires : goal.push_reserved-requires
push_reserved-requires g c = omega (arith, c.loop-id.invariant.len, c.loop-id.invariant.room)

pub returns-in_err-all-clause-turned : goal.returns-in_err-all-clause-turned
returns-in_err-all-clause-turned g c = rw (as_err c.from_residual.ensures.0).1 tt

pub returns-in_err-place-clause-turned : goal.returns-in_err-place-clause-turned
returns-in_err-place-clause-turned g c = rw (as_err c.from_residual-in_err-place.ensures.0).1 tt

pub offset_bounds-ids-id-index : goal.offset_bounds-ids-id-index
offset_bounds-ids-id-index g c = record { fits = omega arith }
