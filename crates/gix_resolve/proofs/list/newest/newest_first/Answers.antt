use Rattle.std.below.core.proofs.iter.Serving.{as_err}
use Rattle.gix_resolve.proofs.list.newest.newest_first.Goals as goal

pub returns-in_err-found-clause-order : goal.returns-in_err-found-clause-order
returns-in_err-found-clause-order g c = rw (as_err c.from_residual.ensures.0).1 tt

pub returns-in_err-found-clause-same : goal.returns-in_err-found-clause-same
returns-in_err-found-clause-same g c = rw (as_err c.from_residual.ensures.0).1 tt

pub returns-in_err-found-clause-history : goal.returns-in_err-found-clause-history
returns-in_err-found-clause-history g c = c.in_order.ensures.after.same_history

pub returns-in_err-found-clause-held : goal.returns-in_err-found-clause-held
returns-in_err-found-clause-held g c = c.in_order.ensures.after.held

pub returns-clause-history : goal.returns-clause-history
returns-clause-history g c = c.in_order.ensures.after.same_history

pub returns-clause-held : goal.returns-clause-held
returns-clause-held g c = c.in_order.ensures.after.held
