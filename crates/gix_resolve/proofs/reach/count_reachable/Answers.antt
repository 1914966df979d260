use Rattle.std.below.core.proofs.iter.Serving.{as_err}
use Rattle.gix_resolve.proofs.reach.count_reachable.Goals as goal

pub returns-clause-size : goal.returns-clause-size
returns-clause-size g c never = c.in_ok-counts.ensures.counts.first never

pub returns-clause-no_less : goal.returns-clause-no_less
returns-clause-no_less g c = c.in_ok-counts.ensures.counts.first_no_less

pub returns-clause-no_more : goal.returns-clause-no_more
returns-clause-no_more g c = c.in_ok-counts.ensures.counts.first_no_more

pub returns-in_err-counts-clause-size : goal.returns-in_err-counts-clause-size
returns-in_err-counts-clause-size g c = λ never. rw (as_err c.from_residual.ensures.0).1 tt

pub returns-in_err-counts-clause-no_less : goal.returns-in_err-counts-clause-no_less
returns-in_err-counts-clause-no_less g c = rw (as_err c.from_residual.ensures.0).1 tt

pub returns-in_err-counts-clause-no_more : goal.returns-in_err-counts-clause-no_more
returns-in_err-counts-clause-no_more g c = rw (as_err c.from_residual.ensures.0).1 tt

pub returns-in_err-counts-clause-history : goal.returns-in_err-counts-clause-history
returns-in_err-counts-clause-history g c = c.counted.ensures.after.same_history

pub returns-in_err-counts-clause-held : goal.returns-in_err-counts-clause-held
returns-in_err-counts-clause-held g c = c.counted.ensures.after.held

pub returns-in_err-counts-clause-taken : goal.returns-in_err-counts-clause-taken
returns-in_err-counts-clause-taken g c = c.counted.ensures.taken

pub returns-clause-history : goal.returns-clause-history
returns-clause-history g c = c.counted.ensures.after.same_history

pub returns-clause-held : goal.returns-clause-held
returns-clause-held g c = c.counted.ensures.after.held

pub returns-clause-taken : goal.returns-clause-taken
returns-clause-taken g c = c.counted.ensures.taken
