use Rattle.std.below.core.proofs.iter.Serving.{as_err}
use Rattle.std.proofs.Common.{◌≡◌, ◌-◌, ◌∙◌, ap, refl, true, rules}
use Rattle.gix_merge_base.specs.Marks.{marks_of}
use Rattle.gix_resolve.specs.ReachSides.{hides}
use Rattle.gix_resolve.proofs.ReachEnter.{right_hidden, enters}
use Rattle.gix_resolve.proofs.reach.hand.hide.Goals as goal

pub returns-clause-right : goal.returns-clause-right
returns-clause-right g c =
    let hidden : hides c.args.walk.now.both (marks_of c.joined-new.result) ≡ true = ap (hides c.args.walk.now.both) c.joined-new.ensures ∙ c.requires.hidden in
    let less : c.saturating_sub-walk.result ≡ c.args.walk.now.unhidden - c.args.old.queued = search rules in
    right_hidden (g.S.Find.history c.args.graph.now.source) c.args.graph.now c.set_mark.new.graph c.args.number c.args.old c.args.marks c.joined-new.result c.args.old.queued c.args.walk.now _
    c.requires.number c.requires.had c.requires.right c.joined-new.ensures c.requires.shown c.in_ok-open_hidden.ensures c.set_mark.ensures hidden refl refl less

pub returns-clause-entered : goal.returns-clause-entered
returns-clause-entered g c =
    enters (g.S.Find.history c.args.graph.now.source) c.args.graph.now c.set_mark.new.graph c.args.number c.args.old c.args.marks c.joined-new.result c.args.old.queued c.args.walk.now
    (record { both = c.args.walk.now.both; met = c.args.walk.now.met; front = c.open_hidden.new.front; unhidden = c.args.walk.now.unhidden; least = c.args.walk.now.least })
    c.requires.number c.requires.had c.requires.right c.joined-new.ensures c.requires.shown c.in_ok-open_hidden.ensures c.set_mark.ensures

pub returns-in_err-open_hidden-clause-right : goal.returns-in_err-open_hidden-clause-right
returns-in_err-open_hidden-clause-right g c = rw (as_err c.from_residual.ensures.0).1 tt

pub returns-in_err-open_hidden-clause-entered : goal.returns-in_err-open_hidden-clause-entered
returns-in_err-open_hidden-clause-entered g c = rw (as_err c.from_residual.ensures.0).1 tt
