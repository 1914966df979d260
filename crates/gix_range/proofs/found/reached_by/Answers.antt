use Rattle.std.proofs.Common.{sym, subst, [], length, ◌<◌, ◌≤◌, arith}
use Rattle.std.proofs.lemmas.List.{take_all}
use Rattle.gix_merge_base.specs.Sides.{CoversSide}
use Rattle.gix_merge_base.proofs.AfterCalls.{after_none, after_more, after_ok}
use Rattle.gix_range.proofs.Choosing.{covers_none, covers_next}
use Rattle.gix_range.proofs.found.reached_by.Goals as goal

pub loop-id-init : goal.loop-id-init
loop-id-init g c =
    let h = g.S.Find.history c.args.graph.now.source in
    record {
      covers = subst (CoversSide h [] []) (sym c.new-all.ensures) (covers_none h);
      after = after_none c.args.graph.now;
    }

pub loop-id-preserved : goal.loop-id-preserved
loop-id-preserved g c =
    let h = g.S.Find.history c.args.graph.now.source in
    let old = c.loop-id.invariant in
    let same = old.after.graph.same_history in
    let below : c.loop-id.id-index < length c.args.ids.now = omega arith in
    record {
      covers = covers_next h c.args.ids.now c.loop-id.all c.add_reached.new.all c.loop-id.id-index _ below old.covers (rw same at c.in_ok-add_reached.ensures.more);
      after = after_more _ _ _ _ old.after (after_ok _ _ _ c.in_ok-add_reached.ensures.after);
    }

pub returns-clause-covers : goal.returns-clause-covers
returns-clause-covers g c =
    let h = g.S.Find.history c.args.graph.now.source in
    let done : length c.args.ids.now ≤ c.loop-id.id-index = omega arith in
    subst (CoversSide h c.args.ids.now []) (sym c.into_vec.ensures) (rw (take_all c.loop-id.id-index c.args.ids.now done) at c.loop-id.invariant.covers)
