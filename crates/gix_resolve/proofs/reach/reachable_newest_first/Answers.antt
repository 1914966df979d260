use Rattle.std.below.core.proofs.iter.Serving.{as_err}
use Rattle.gix_resolve.proofs.reach.reachable_newest_first.Goals as goal

pub returns-clause-reached : goal.returns-clause-reached
returns-clause-reached g c never = let listed = c.in_ok-ids.ensures.listed in (listed.once, λ d. ((λ m. listed.exact never d m), (λ q. listed.every d q)))

pub returns-clause-every : goal.returns-clause-every
returns-clause-every g c = c.in_ok-ids.ensures.listed.every

pub returns-clause-shown : goal.returns-clause-shown
returns-clause-shown g c = c.in_ok-ids.ensures.listed.may

pub returns-clause-order : goal.returns-clause-order
returns-clause-order g c = c.in_ok-ids.ensures.order

pub returns-in_err-ids-clause-reached : goal.returns-in_err-ids-clause-reached
returns-in_err-ids-clause-reached g c = λ never. rw (as_err c.from_residual.ensures.0).1 tt

pub returns-in_err-ids-clause-every : goal.returns-in_err-ids-clause-every
returns-in_err-ids-clause-every g c = rw (as_err c.from_residual.ensures.0).1 tt

pub returns-in_err-ids-clause-shown : goal.returns-in_err-ids-clause-shown
returns-in_err-ids-clause-shown g c = rw (as_err c.from_residual.ensures.0).1 tt

pub returns-in_err-ids-clause-order : goal.returns-in_err-ids-clause-order
returns-in_err-ids-clause-order g c = rw (as_err c.from_residual.ensures.0).1 tt

pub returns-in_err-ids-clause-history : goal.returns-in_err-ids-clause-history
returns-in_err-ids-clause-history g c = c.newest_listed.ensures.after.same_history

pub returns-in_err-ids-clause-held : goal.returns-in_err-ids-clause-held
returns-in_err-ids-clause-held g c = c.newest_listed.ensures.after.held

pub returns-in_err-ids-clause-taken : goal.returns-in_err-ids-clause-taken
returns-in_err-ids-clause-taken g c = c.newest_listed.ensures.taken

pub returns-clause-history : goal.returns-clause-history
returns-clause-history g c = c.newest_listed.ensures.after.same_history

pub returns-clause-held : goal.returns-clause-held
returns-clause-held g c = c.newest_listed.ensures.after.held

pub returns-clause-taken : goal.returns-clause-taken
returns-clause-taken g c = c.newest_listed.ensures.taken
