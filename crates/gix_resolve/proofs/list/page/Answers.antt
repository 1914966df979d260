use Rattle.std.below.core.proofs.iter.Serving.{as_err}
use Rattle.gix_resolve.proofs.list.page.Goals as goal

pub returns-in_err-ids-clause-page : goal.returns-in_err-ids-clause-page
returns-in_err-ids-clause-page g c = rw (as_err c.from_residual.ensures.0).1 tt

pub returns-in_err-ids-clause-history : goal.returns-in_err-ids-clause-history
returns-in_err-ids-clause-history g c = c.commits.ensures.history

pub returns-in_err-ids-clause-held : goal.returns-in_err-ids-clause-held
returns-in_err-ids-clause-held g c = c.commits.ensures.held

pub returns-in_err-ids-clause-taken : goal.returns-in_err-ids-clause-taken
returns-in_err-ids-clause-taken g c = c.commits.ensures.taken

pub returns-clause-history : goal.returns-clause-history
returns-clause-history g c = c.commits.ensures.history

pub returns-clause-held : goal.returns-clause-held
returns-clause-held g c = c.commits.ensures.held

pub returns-clause-taken : goal.returns-clause-taken
returns-clause-taken g c = c.commits.ensures.taken
