use Rattle.std.below.core.proofs.iter.Serving.{as_err}
use Rattle.gix_resolve.proofs.list.count_commits.Goals as goal

pub returns-in_err-count-clause-size : goal.returns-in_err-count-clause-size
returns-in_err-count-clause-size g c = rw (as_err c.from_residual.ensures.0).1 tt

pub returns-in_err-count-clause-history : goal.returns-in_err-count-clause-history
returns-in_err-count-clause-history g c = c.early_count.ensures.after.same_history

pub returns-in_err-count-clause-held : goal.returns-in_err-count-clause-held
returns-in_err-count-clause-held g c = c.early_count.ensures.after.held

pub returns-in_err-count-clause-taken : goal.returns-in_err-count-clause-taken
returns-in_err-count-clause-taken g c = c.early_count.ensures.taken

pub returns-clause-history : goal.returns-clause-history
returns-clause-history g c = c.early_count.ensures.after.same_history

pub returns-clause-held : goal.returns-clause-held
returns-clause-held g c = c.early_count.ensures.after.held

pub returns-clause-taken : goal.returns-clause-taken
returns-clause-taken g c = c.early_count.ensures.taken
