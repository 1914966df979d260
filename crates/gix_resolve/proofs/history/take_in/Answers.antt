use Rattle.std.below.core.proofs.iter.Serving.{as_err}
use Rattle.gix_resolve.proofs.history.take_in.Goals as goal

pub returns-in_err-graph-clause-has : goal.returns-in_err-graph-clause-has
returns-in_err-graph-clause-has g c = rw (as_err c.from_residual.ensures.0).1 tt

pub returns-in_err-graph-clause-there : goal.returns-in_err-graph-clause-there
returns-in_err-graph-clause-there g c = rw (as_err c.from_residual.ensures.0).1 tt
