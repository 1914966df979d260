use Rattle.std.below.core.proofs.iter.Serving.{as_err}
use Rattle.std.proofs.Common.{true, ap, sym, subst, ◌∙◌}
use Rattle.std.specs.List.{filter}
use Rattle.gix_merge_base.specs.PaintQueue.{marks_at, ids_at, AreIn}
use Rattle.gix_resolve.specs.ReachSides.{shows}
use Rattle.gix_resolve.proofs.ReachShown.{lists_either}
use Rattle.gix_resolve.proofs.reach.shown.eithers.Goals as goal

pub shown_of-requires : goal.shown_of-requires
shown_of-requires g c = subst (AreIn c.follow.new.graph) (sym c.deref.ensures.value) c.in_ok-walk.ensures.met.inside

pub returns-clause-listed : goal.returns-clause-listed
returns-clause-listed g c =
    let new = c.follow.new.graph in
    let found = c.in_ok-shown_of.field-0.items in
    lists_either (g.S.Find.history c.args.graph.now.source) c.args.first.now c.args.second.now new c.in_ok-walk.walk.met.items (ids_at new found) c.in_ok-walk.ensures.met c.in_ok-walk.ensures.sees
    (c.in_ok-shown_of.ensures.1 ∙ ap (λ l. filter (λ d. shows true (marks_at new d)) (ids_at new l)) c.deref.ensures.value)

pub returns-in_err-walk-clause-inside : goal.returns-in_err-walk-clause-inside
returns-in_err-walk-clause-inside g c = rw (as_err c.from_residual.ensures.0).1 tt

pub returns-in_err-walk-clause-listed : goal.returns-in_err-walk-clause-listed
returns-in_err-walk-clause-listed g c = rw (as_err c.from_residual.ensures.0).1 tt

pub returns-in_err-walk-clause-taken : goal.returns-in_err-walk-clause-taken
returns-in_err-walk-clause-taken g c = c.follow.ensures.taken

pub returns-in_err-shown_of-clause-inside : goal.returns-in_err-shown_of-clause-inside
returns-in_err-shown_of-clause-inside g c = rw (as_err c.from_residual-in_err-shown_of.ensures.0).1 tt

pub returns-in_err-shown_of-clause-listed : goal.returns-in_err-shown_of-clause-listed
returns-in_err-shown_of-clause-listed g c = rw (as_err c.from_residual-in_err-shown_of.ensures.0).1 tt

pub returns-clause-taken : goal.returns-clause-taken
returns-clause-taken g c = c.follow.ensures.taken
