use Rattle.std.below.core.proofs.iter.Serving.{as_err}
use Rattle.std.proofs.Common.{◌∙◌, refl, sym, subst}
use Rattle.gix_merge_base.specs.PaintQueue.{marks_at, queued_ids}
use Rattle.gix_resolve.specs.ReachWalk.{IsRight}
use Rattle.gix_resolve.proofs.ListAfter.{after_then}
use Rattle.gix_resolve.proofs.ListMembers.{on-ok}
use Rattle.gix_resolve.proofs.ReachGives.{gives_as}
use Rattle.gix_resolve.proofs.ReachNext.{right_again}
use Rattle.gix_resolve.proofs.ReachTaken.{taken_first, taken_second}
use Rattle.gix_resolve.proofs.ReachSides.{walked_first, walked_second}
use Rattle.gix_resolve.proofs.reach.walk.begin_both.Goals as goal

pub begin_all-requires : goal.begin_all-requires
begin_all-requires g c = c.requires.right

pub begin_all-requires-2 : goal.begin_all-requires-2
begin_all-requires-2 g c =
    right_again (g.S.Find.history c.begin_all.new.graph.source) c.begin_all.new.graph c.begin_all.new.walk _ refl refl c.hold.ensures refl
    (subst (λ h. IsRight h c.begin_all.new.graph c.begin_all.new.walk) (sym c.in_ok-begin_all.ensures.after.same_history) c.in_ok-begin_all.ensures.right)

pub returns-in_err-begin_all-clause-taken : goal.returns-in_err-begin_all-clause-taken
returns-in_err-begin_all-clause-taken g c =
    taken_first (g.S.Find.history c.args.graph.now.source) c.args.first.now c.args.second.now c.args.graph.now c.args.graph.now c.begin_all.new.graph refl c.begin_all.ensures.taken

pub returns-clause-right : goal.returns-clause-right
returns-clause-right g c =
    on-ok c.begin_all-2.result (subst (λ h. IsRight h c.begin_all-2.new.graph c.begin_all-2.new.walk) c.in_ok-begin_all.ensures.after.same_history) c.begin_all-2.ensures.right

pub returns-clause-walked : goal.returns-clause-walked
returns-clause-walked g c =
    let h = (g.S.Find.history c.args.graph.now.source) in
    let old = c.args.graph.now in
    let mid = c.begin_all.new.graph in
    let new = c.begin_all-2.new.graph in
    on-ok c.begin_all-2.result
    (λ all.
    let given = rw (c.in_ok-begin_all.ensures.after.same_history, c.hold.ensures) at all in
    let second = gives_as c.in_ok-begin_all.ensures.sides.0 given in
    walked_second h _ c.args.first.now c.args.second.now c.args.walk.now.both (marks_at mid) (marks_at new) (queued_ids mid c.begin_all.new.walk.front) (queued_ids new c.begin_all-2.new.walk.front) c.args.walk.now.least refl refl refl
    (walked_first h _ c.args.first.now c.args.walk.now.both (marks_at old) (marks_at mid) (queued_ids old c.args.walk.now.front) (queued_ids mid c.begin_all.new.walk.front) c.args.walk.now.least refl refl refl c.requires.walked c.in_ok-begin_all.ensures.handed) second)
    c.begin_all-2.ensures.handed

pub returns-clause-sides : goal.returns-clause-sides
returns-clause-sides g c =
    on-ok c.begin_all-2.result (λ sides. (sides.0 ∙ c.in_ok-begin_all.ensures.sides.0, sides.1 ∙ c.in_ok-begin_all.ensures.sides.1)) c.begin_all-2.ensures.sides

pub returns-clause-taken : goal.returns-clause-taken
returns-clause-taken g c =
    taken_second (g.S.Find.history c.args.graph.now.source) c.args.first.now c.args.second.now c.args.graph.now c.begin_all.new.graph c.begin_all-2.new.graph
    (taken_first (g.S.Find.history c.args.graph.now.source) c.args.first.now c.args.second.now c.args.graph.now c.args.graph.now c.begin_all.new.graph refl c.begin_all.ensures.taken)
    (rw c.in_ok-begin_all.ensures.after.same_history at c.begin_all-2.ensures.taken)

pub returns-clause-after : goal.returns-clause-after
returns-clause-after g c = after_then c.args.graph.now c.begin_all.new.graph c.begin_all-2.new.graph c.begin_all-2.result c.in_ok-begin_all.ensures.after c.begin_all-2.ensures.after

pub returns-in_err-begin_all-clause-right : goal.returns-in_err-begin_all-clause-right
returns-in_err-begin_all-clause-right g c = rw (as_err c.from_residual.ensures.0).1 tt

pub returns-in_err-begin_all-clause-walked : goal.returns-in_err-begin_all-clause-walked
returns-in_err-begin_all-clause-walked g c = rw (as_err c.from_residual.ensures.0).1 tt

pub returns-in_err-begin_all-clause-sides : goal.returns-in_err-begin_all-clause-sides
returns-in_err-begin_all-clause-sides g c = rw (as_err c.from_residual.ensures.0).1 tt
