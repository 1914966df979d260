use Rattle.std.below.core.proofs.iter.Serving.{as_err}
use Rattle.std.proofs.Common.{◌≡◌, ◌∙◌, ap, refl, max, false, rules}
use Rattle.gix_merge_base.specs.Marks.{marks_of}
use Rattle.gix_resolve.specs.ReachSides.{hides}
use Rattle.gix_resolve.proofs.ReachEnter.{right_shown, enters, opens-again}
use Rattle.gix_resolve.proofs.reach.hand.show.Goals as goal

pub returns-clause-right : goal.returns-clause-right
returns-clause-right g c =
    let most : c.max-queued.result ≡ max c.args.old.queued 1 = search rules in
    let shown : hides c.args.walk.now.both (marks_of c.joined-new.result) ≡ false = ap (hides c.args.walk.now.both) c.joined-new.ensures ∙ c.requires.shown in
    right_shown (g.S.Find.history c.args.graph.now.source) c.args.graph.now c.set_mark.new.graph c.args.number c.args.old c.args.marks c.joined-new.result c.max-queued.result c.args.walk.now _
    c.requires.number c.requires.had c.requires.right c.joined-new.ensures c.requires.before (opens-again _ _ _ _ _ c.in_ok-open_shown.ensures) c.set_mark.ensures
    shown most c.in_ok-open_shown.ensures c.args.unmarked c.requires.unmarked refl c.in_ok-meet.ensures c.in_ok-walk.ensures

pub returns-clause-entered : goal.returns-clause-entered
returns-clause-entered g c =
    enters (g.S.Find.history c.args.graph.now.source) c.args.graph.now c.set_mark.new.graph c.args.number c.args.old c.args.marks c.joined-new.result c.max-queued.result c.args.walk.now
    (record { both = c.args.walk.now.both; met = c.meet.new.met; front = c.open_shown.new.front; unhidden = c.in_ok-walk.field-0; least = c.args.walk.now.least })
    c.requires.number c.requires.had c.requires.right c.joined-new.ensures c.requires.before (opens-again _ _ _ _ _ c.in_ok-open_shown.ensures) c.set_mark.ensures

pub returns-in_err-open_shown-clause-right : goal.returns-in_err-open_shown-clause-right
returns-in_err-open_shown-clause-right g c = rw (as_err c.from_residual.ensures.0).1 tt

pub returns-in_err-open_shown-clause-entered : goal.returns-in_err-open_shown-clause-entered
returns-in_err-open_shown-clause-entered g c = rw (as_err c.from_residual.ensures.0).1 tt

pub returns-in_err-walk-clause-right : goal.returns-in_err-walk-clause-right
returns-in_err-walk-clause-right g c = rw (as_err c.from_residual-in_err-walk.ensures.0).1 tt

pub returns-in_err-walk-clause-entered : goal.returns-in_err-walk-clause-entered
returns-in_err-walk-clause-entered g c = rw (as_err c.from_residual-in_err-walk.ensures.0).1 tt

pub returns-in_err-meet-clause-right : goal.returns-in_err-meet-clause-right
returns-in_err-meet-clause-right g c = rw (as_err c.from_residual-in_err-meet.ensures.0).1 tt

pub returns-in_err-meet-clause-entered : goal.returns-in_err-meet-clause-entered
returns-in_err-meet-clause-entered g c = rw (as_err c.from_residual-in_err-meet.ensures.0).1 tt
