use Rattle.std.below.core.proofs.iter.Serving.{as_err}
use Rattle.std.proofs.Common.{refl}
use Rattle.gix_resolve.proofs.ReachCounted.{size-range, no_less-range, no_more-one}
use Rattle.gix_resolve.proofs.reach.ahead_behind.Goals as goal

pub returns-clause-ahead : goal.returns-clause-ahead
returns-clause-ahead g c never = size-range (g.S.Find.history c.args.graph.now.source) c.args.theirs c.args.ours _ (c.in_ok-counts.ensures.counts.first never)

pub returns-clause-behind : goal.returns-clause-behind
returns-clause-behind g c never = size-range (g.S.Find.history c.args.graph.now.source) c.args.ours c.args.theirs _ (c.in_ok-counts.ensures.counts.second never refl)

pub returns-clause-no_less_ahead : goal.returns-clause-no_less_ahead
returns-clause-no_less_ahead g c = no_less-range (g.S.Find.history c.args.graph.now.source) c.args.theirs c.args.ours _ c.in_ok-counts.ensures.counts.first_no_less

pub returns-clause-no_less_behind : goal.returns-clause-no_less_behind
returns-clause-no_less_behind g c = no_less-range (g.S.Find.history c.args.graph.now.source) c.args.ours c.args.theirs _ (c.in_ok-counts.ensures.counts.second_no_less refl)

pub returns-clause-no_more_ahead : goal.returns-clause-no_more_ahead
returns-clause-no_more_ahead g c = no_more-one (g.S.Find.history c.args.graph.now.source) c.args.ours _ c.in_ok-counts.ensures.counts.first_no_more

pub returns-clause-no_more_behind : goal.returns-clause-no_more_behind
returns-clause-no_more_behind g c = no_more-one (g.S.Find.history c.args.graph.now.source) c.args.theirs _ (c.in_ok-counts.ensures.counts.second_no_more refl)

pub returns-in_err-counts-clause-ahead : goal.returns-in_err-counts-clause-ahead
returns-in_err-counts-clause-ahead g c = λ never. rw (as_err c.from_residual.ensures.0).1 tt

pub returns-in_err-counts-clause-behind : goal.returns-in_err-counts-clause-behind
returns-in_err-counts-clause-behind g c = λ never. rw (as_err c.from_residual.ensures.0).1 tt

pub returns-in_err-counts-clause-no_less_ahead : goal.returns-in_err-counts-clause-no_less_ahead
returns-in_err-counts-clause-no_less_ahead g c = rw (as_err c.from_residual.ensures.0).1 tt

pub returns-in_err-counts-clause-no_less_behind : goal.returns-in_err-counts-clause-no_less_behind
returns-in_err-counts-clause-no_less_behind g c = rw (as_err c.from_residual.ensures.0).1 tt

pub returns-in_err-counts-clause-no_more_ahead : goal.returns-in_err-counts-clause-no_more_ahead
returns-in_err-counts-clause-no_more_ahead g c = rw (as_err c.from_residual.ensures.0).1 tt

pub returns-in_err-counts-clause-no_more_behind : goal.returns-in_err-counts-clause-no_more_behind
returns-in_err-counts-clause-no_more_behind g c = rw (as_err c.from_residual.ensures.0).1 tt

pub returns-in_err-counts-clause-history : goal.returns-in_err-counts-clause-history
returns-in_err-counts-clause-history g c = c.counted_both.ensures.after.same_history

pub returns-in_err-counts-clause-held : goal.returns-in_err-counts-clause-held
returns-in_err-counts-clause-held g c = c.counted_both.ensures.after.held

pub returns-in_err-counts-clause-taken : goal.returns-in_err-counts-clause-taken
returns-in_err-counts-clause-taken g c = c.counted_both.ensures.taken

pub returns-clause-history : goal.returns-clause-history
returns-clause-history g c = c.counted_both.ensures.after.same_history

pub returns-clause-held : goal.returns-clause-held
returns-clause-held g c = c.counted_both.ensures.after.held

pub returns-clause-taken : goal.returns-clause-taken
returns-clause-taken g c = c.counted_both.ensures.taken
