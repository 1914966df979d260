use Rattle.std.below.core.proofs.iter.Serving.{as_err}
use Rattle.std.proofs.Common.{ap, sym, subst, ◌∙◌}
use Rattle.gix_merge_base.specs.PaintQueue.{ids_at, AreIn}
use Rattle.gix_resolve.specs.ReachSides.{ListsFirst}
use Rattle.gix_resolve.proofs.reach.count.listed.Goals as goal

pub ids_of-requires : goal.ids_of-requires
ids_of-requires g c = subst (AreIn c.firsts.new.graph) (sym c.deref.ensures.value) c.in_ok-numbers.ensures.inside

pub returns-clause-listed : goal.returns-clause-listed
returns-clause-listed g c =
    subst (ListsFirst (g.S.Find.history c.args.graph.now.source) c.args.first.now c.args.second.now)
    (sym (c.in_ok-ids_of.ensures ∙ ap (ids_at c.firsts.new.graph) c.deref.ensures.value)) c.in_ok-numbers.ensures.listed

pub returns-in_err-numbers-clause-listed : goal.returns-in_err-numbers-clause-listed
returns-in_err-numbers-clause-listed g c = rw (as_err c.from_residual.ensures.0).1 tt

pub returns-in_err-ids_of-clause-listed : goal.returns-in_err-ids_of-clause-listed
returns-in_err-ids_of-clause-listed g c = rw (as_err c.from_residual-in_err-ids_of.ensures.0).1 tt

pub returns-in_err-numbers-clause-taken : goal.returns-in_err-numbers-clause-taken
returns-in_err-numbers-clause-taken g c = c.firsts.ensures.taken

pub returns-clause-taken : goal.returns-clause-taken
returns-clause-taken g c = c.firsts.ensures.taken
