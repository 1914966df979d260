use Rattle.std.below.core.proofs.iter.Serving.{as_err}
use Rattle.gix_resolve.proofs.reach.counted_both.Goals as goal

pub returns-in_err-is_newer-clause-counts : goal.returns-in_err-is_newer-clause-counts
returns-in_err-is_newer-clause-counts g c = rw (as_err c.from_residual.ensures.0).1 tt
