use Rattle.std.below.core.proofs.iter.Serving.{as_err}
use Rattle.gix_resolve.specs.ListMeaning.{IsMeant}
use Rattle.gix_resolve.proofs.ListSorted.{members-sorted}
use Rattle.gix_resolve.proofs.list.commits_early.Goals as goal

pub returns-clause-meant : goal.returns-clause-meant
returns-clause-meant g c =
    let sorted = members-sorted (IsMeant (g.S.Find.history c.args.graph.now.source) c.args.spec.now) c.in_ok-ids.ids.items c.sort_unstable.new.self.items c.in_ok-ids.ensures.meant c.sort_unstable.ensures.permutation c.sort_unstable.ensures.sorted in
    record { meant = sorted.0; rising = sorted.1 }

pub returns-in_err-ids-clause-meant : goal.returns-in_err-ids-clause-meant
returns-in_err-ids-clause-meant g c = rw (as_err c.from_residual.ensures.0).1 tt

pub returns-in_err-ids-clause-history : goal.returns-in_err-ids-clause-history
returns-in_err-ids-clause-history g c = c.ids_by.ensures.after.same_history

pub returns-in_err-ids-clause-held : goal.returns-in_err-ids-clause-held
returns-in_err-ids-clause-held g c = c.ids_by.ensures.after.held

pub returns-in_err-ids-clause-taken : goal.returns-in_err-ids-clause-taken
returns-in_err-ids-clause-taken g c = c.ids_by.ensures.taken

pub returns-clause-history : goal.returns-clause-history
returns-clause-history g c = c.ids_by.ensures.after.same_history

pub returns-clause-held : goal.returns-clause-held
returns-clause-held g c = c.ids_by.ensures.after.held

pub returns-clause-taken : goal.returns-clause-taken
returns-clause-taken g c = c.ids_by.ensures.taken
