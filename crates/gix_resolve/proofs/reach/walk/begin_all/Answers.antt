use Rattle.std.below.core.proofs.iter.Serving.{as_err}
use Rattle.std.proofs.Common.{◌∙◌, refl, sym, subst, arith, []}
use Rattle.std.proofs.lemmas.List.{take_all}
use Rattle.gix_merge_base.specs.Marks.{marks_of}
use Rattle.gix_resolve.specs.ReachSides.{Gives}
use Rattle.gix_merge_base.specs.PaintQueue.{marks_at, queued_ids}
use Rattle.gix_resolve.proofs.ReachGives.{gives_none, gives_next, gives_as}
use Rattle.gix_resolve.specs.ReachWalk.{IsRight}
use Rattle.gix_resolve.proofs.ListAfter.{after_same, after_then}
use Rattle.gix_resolve.proofs.ListTaken.{only_same}
use Rattle.gix_resolve.proofs.ReachTaken.{more_starts}
use Rattle.gix_resolve.proofs.reach.walk.begin_all.Goals as goal

pub loop-id-init : goal.loop-id-init
loop-id-init g c =
    let m = marks_at c.args.graph.now in
    let q = queued_ids c.args.graph.now c.args.walk.now.front in
    record {
      right = c.requires;
      handed = gives_none (g.S.Find.history c.args.graph.now.source) c.args.walk.now.both (marks_of c.args.marks) m m q q (λ d. refl) refl [] (λ p k has. cc);
      sides = (refl, refl);
      taken = only_same _ c.args.graph.now c.args.graph.now refl;
      after = after_same c.args.graph.now c.args.graph.now _ refl refl refl;
    }

pub begin-requires : goal.begin-requires
begin-requires g c = subst (λ h. IsRight h c.loop-id.graph c.loop-id.walk) (sym c.loop-id.invariant.after.same_history) c.loop-id.invariant.right

pub loop-id-preserved : goal.loop-id-preserved
loop-id-preserved g c =
    let h = g.S.Find.history c.args.graph.now.source in
    let same = c.loop-id.invariant.after.same_history in
    let given = rw same at c.in_ok-begin.ensures.handed in
    let one = gives_as c.loop-id.invariant.sides.0 given in
    record {
      right = subst (λ z. IsRight z c.begin.new.graph c.begin.new.walk) same c.in_ok-begin.ensures.right;
      handed = gives_next h c.args.walk.now.both (marks_of c.args.marks) c.args.ids.now c.loop-id.id-index _ (marks_at c.args.graph.now) (marks_at c.loop-id.graph) (marks_at c.begin.new.graph)
          (queued_ids c.args.graph.now c.args.walk.now.front) (queued_ids c.loop-id.graph c.loop-id.walk.front) (queued_ids c.begin.new.graph c.begin.new.walk.front) c.loop-id-test.true c.loop-id.invariant.handed one;
      taken = more_starts h c.args.ids.now c.loop-id.id-index _ c.args.graph.now c.loop-id.graph c.begin.new.graph c.loop-id-test.true c.loop-id.invariant.taken (rw same at c.begin.ensures.taken);
      sides = (c.in_ok-begin.ensures.sides.0 ∙ c.loop-id.invariant.sides.0, c.in_ok-begin.ensures.sides.1 ∙ c.loop-id.invariant.sides.1);
      after = after_then c.args.graph.now c.loop-id.graph c.begin.new.graph _ c.loop-id.invariant.after c.in_ok-begin.ensures.after;
    }

pub returns-clause-handed : goal.returns-clause-handed
returns-clause-handed g c =
    subst (λ l. Gives (g.S.Find.history c.args.graph.now.source) c.args.walk.now.both (marks_of c.args.marks) l (marks_at c.args.graph.now) (queued_ids c.args.graph.now c.args.walk.now.front) (marks_at c.loop-id.graph) (queued_ids c.loop-id.graph c.loop-id.walk.front))
    (take_all c.loop-id.id-index c.args.ids.now (omega arith)) c.loop-id.invariant.handed

pub returns-in_err-begin-clause-taken : goal.returns-in_err-begin-clause-taken
returns-in_err-begin-clause-taken g c =
    let h = g.S.Find.history c.args.graph.now.source in
    more_starts h c.args.ids.now c.loop-id.id-index _ c.args.graph.now c.loop-id.graph c.begin.new.graph c.loop-id-test.true c.loop-id.invariant.taken
    (rw c.loop-id.invariant.after.same_history at c.begin.ensures.taken)

pub offset_bounds-ids-id-index : goal.offset_bounds-ids-id-index
offset_bounds-ids-id-index g c = record { fits = omega arith }

pub returns-in_err-begin-clause-right : goal.returns-in_err-begin-clause-right
returns-in_err-begin-clause-right g c = rw (as_err c.from_residual.ensures.0).1 tt

pub returns-in_err-begin-clause-handed : goal.returns-in_err-begin-clause-handed
returns-in_err-begin-clause-handed g c = rw (as_err c.from_residual.ensures.0).1 tt

pub returns-in_err-begin-clause-sides : goal.returns-in_err-begin-clause-sides
returns-in_err-begin-clause-sides g c = rw (as_err c.from_residual.ensures.0).1 tt
