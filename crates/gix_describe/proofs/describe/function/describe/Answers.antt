use Rattle.std.proofs.Common.{refl}
use Rattle.gix_describe.proofs.Asked.{err_came}
use Rattle.gix_describe.proofs.describe.function.describe.Goals as goal

pub returns-clause-described : goal.returns-clause-described
returns-clause-described g c = c.in_ok-answer.ensures.described

pub returns-clause-kept : goal.returns-clause-kept
returns-clause-kept g c = c.in_ok-answer.ensures.kept

pub returns-clause-tied : goal.returns-clause-tied
returns-clause-tied g c = c.in_ok-answer.ensures.tied

pub returns-clause-held : goal.returns-clause-held
returns-clause-held g c = c.in_ok-answer.ensures.held

pub returns-clause-untouched : goal.returns-clause-untouched
returns-clause-untouched g c = c.counted.ensures.untouched

pub returns-clause-no_walk : goal.returns-clause-no_walk
returns-clause-no_walk g c = λ absent idle. refl

pub returns-clause-history : goal.returns-clause-history
returns-clause-history g c = c.counted.ensures.history

pub returns-clause-count : goal.returns-clause-count
returns-clause-count g c = c.in_ok-answer.ensures.count

pub returns-in_err-answer-clause-refused : goal.returns-in_err-answer-clause-refused
returns-in_err-answer-clause-refused g c = rw (err_came c.from_residual.result _ c.from_residual.ensures.1) c.in_err-answer.ensures.refused

pub returns-in_err-answer-clause-untouched : goal.returns-in_err-answer-clause-untouched
returns-in_err-answer-clause-untouched g c = c.counted.ensures.untouched

pub returns-in_err-answer-clause-no_walk : goal.returns-in_err-answer-clause-no_walk
returns-in_err-answer-clause-no_walk g c = rw (err_came c.from_residual.result _ c.from_residual.ensures.1) c.in_err-answer.ensures.no_walk

pub returns-in_err-answer-clause-history : goal.returns-in_err-answer-clause-history
returns-in_err-answer-clause-history g c = c.counted.ensures.history

pub returns-in_err-answer-clause-count : goal.returns-in_err-answer-clause-count
returns-in_err-answer-clause-count g c = rw (err_came c.from_residual.result _ c.from_residual.ensures.1) c.in_err-answer.ensures.count

pub returns-in_err-answer-clause-fault : goal.returns-in_err-answer-clause-fault
returns-in_err-answer-clause-fault g c = rw (err_came c.from_residual.result _ c.from_residual.ensures.1) c.in_err-answer.ensures.fault
