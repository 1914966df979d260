use Rattle.std.below.core.proofs.iter.Serving.{as_err}
use Rattle.std.proofs.Common.{refl, subst, arith}
use Rattle.std.proofs.lemmas.List.{take_all}
use Rattle.gix_merge_base.specs.PaintQueue.{ids_at}
use Rattle.gix_resolve.specs.ListWalk.{Adds}
use Rattle.gix_resolve.proofs.ListWalks.{adds_none, adds_next}
use Rattle.gix_merge_base.proofs.Listed.{listed-same}
use Rattle.gix_resolve.proofs.ListAfter.{after_same, after_then}
use Rattle.gix_resolve.proofs.ListMarks.{numbers-then}
use Rattle.gix_resolve.proofs.ListTaken.{only_same, only_more}
use Rattle.gix_resolve.proofs.list.walk.list_all_ancestors.Goals as goal

pub loop-id-init : goal.loop-id-init
loop-id-init g c = record {
  marked = c.requires.marked;
  closed = c.requires.closed;
  adds = adds_none _ (ids_at c.args.graph.now c.args.listed.now.items);
  numbers = listed-same c.args.graph.now c.args.graph.now refl;
  after = after_same c.args.graph.now c.args.graph.now _ refl refl refl;
  taken = only_same _ c.args.graph.now c.args.graph.now refl;
}

pub list_ancestors-requires-clause-closed : goal.list_ancestors-requires-clause-closed
list_ancestors-requires-clause-closed g c = rw c.loop-id.invariant.after.same_history c.loop-id.invariant.closed

pub loop-id-preserved : goal.loop-id-preserved
loop-id-preserved g c =
    let h = g.S.Find.history c.args.graph.now.source in
    let same = c.loop-id.invariant.after.same_history in
    let adds = rw same at c.in_ok-list_ancestors.ensures.adds in
    let closed = rw same at c.in_ok-list_ancestors.ensures.closed in
    record {
      marked = c.in_ok-list_ancestors.ensures.marked;
      closed = closed;
      adds = adds_next h c.args.ids.now (ids_at c.args.graph.now c.args.listed.now.items) (ids_at c.loop-id.graph c.loop-id.listed.items) (ids_at c.list_ancestors.new.graph c.list_ancestors.new.listed.items)
          c.loop-id.id-index _ c.loop-id-test.true c.loop-id.invariant.adds adds;
      numbers = numbers-then c.args.graph.now c.loop-id.graph c.list_ancestors.new.graph c.loop-id.invariant.numbers c.in_ok-list_ancestors.ensures.numbers;
      after = after_then c.args.graph.now c.loop-id.graph c.list_ancestors.new.graph _ c.loop-id.invariant.after c.in_ok-list_ancestors.ensures.after;
      taken = only_more h c.args.ids.now (ids_at c.args.graph.now c.args.listed.now.items) (ids_at c.loop-id.graph c.loop-id.listed.items) c.loop-id.id-index _ c.args.graph.now c.loop-id.graph c.list_ancestors.new.graph
          c.loop-id-test.true c.loop-id.invariant.adds c.loop-id.invariant.taken (rw same at c.list_ancestors.ensures.taken);
    }

pub returns-clause-adds : goal.returns-clause-adds
returns-clause-adds g c =
    subst (λ l. Adds (g.S.Find.history c.args.graph.now.source) l (ids_at c.args.graph.now c.args.listed.now.items) (ids_at c.loop-id.graph c.loop-id.listed.items))
    (take_all c.loop-id.id-index c.args.ids.now (omega arith)) c.loop-id.invariant.adds

pub returns-in_err-list_ancestors-clause-taken : goal.returns-in_err-list_ancestors-clause-taken
returns-in_err-list_ancestors-clause-taken g c =
    only_more (g.S.Find.history c.args.graph.now.source) c.args.ids.now (ids_at c.args.graph.now c.args.listed.now.items) (ids_at c.loop-id.graph c.loop-id.listed.items) c.loop-id.id-index _ c.args.graph.now c.loop-id.graph c.list_ancestors.new.graph
    c.loop-id-test.true c.loop-id.invariant.adds c.loop-id.invariant.taken (rw c.loop-id.invariant.after.same_history at c.list_ancestors.ensures.taken)

pub offset_bounds-ids-id-index : goal.offset_bounds-ids-id-index
offset_bounds-ids-id-index g c = record { fits = omega arith }

pub returns-in_err-list_ancestors-clause-marked : goal.returns-in_err-list_ancestors-clause-marked
returns-in_err-list_ancestors-clause-marked g c = rw (as_err c.from_residual.ensures.0).1 tt

pub returns-in_err-list_ancestors-clause-closed : goal.returns-in_err-list_ancestors-clause-closed
returns-in_err-list_ancestors-clause-closed g c = rw (as_err c.from_residual.ensures.0).1 tt

pub returns-in_err-list_ancestors-clause-adds : goal.returns-in_err-list_ancestors-clause-adds
returns-in_err-list_ancestors-clause-adds g c = rw (as_err c.from_residual.ensures.0).1 tt

pub returns-in_err-list_ancestors-clause-numbers : goal.returns-in_err-list_ancestors-clause-numbers
returns-in_err-list_ancestors-clause-numbers g c = rw (as_err c.from_residual.ensures.0).1 tt
