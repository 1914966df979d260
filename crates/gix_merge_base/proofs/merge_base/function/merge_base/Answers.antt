use Rattle.std.proofs.Common.{refl}
use Rattle.gix_merge_base.proofs.Residuals.{count_err, cause_err}
use Rattle.gix_merge_base.proofs.merge_base.function.merge_base.Goals as goal

pub returns-clause-trivial : goal.returns-clause-trivial
returns-clause-trivial g c t = (refl, (c.counted.ensures.trivial t).1)

pub returns-clause-trivial_answer : goal.returns-clause-trivial_answer
returns-clause-trivial_answer g c t = (c.in_ok-bases.ensures.trivial_answer t).0

pub returns-clause-bases : goal.returns-clause-bases
returns-clause-bases g c = c.in_ok-bases.ensures.bases

pub returns-clause-without_generations : goal.returns-clause-without_generations
returns-clause-without_generations g c = c.in_ok-bases.ensures.without_generations

pub returns-clause-order : goal.returns-clause-order
returns-clause-order g c = c.in_ok-bases.ensures.order

pub returns-clause-taken : goal.returns-clause-taken
returns-clause-taken g c = c.counted.ensures.taken

pub returns-in_err-bases-clause-taken : goal.returns-in_err-bases-clause-taken
returns-in_err-bases-clause-taken g c = c.counted.ensures.taken

pub returns-clause-reached : goal.returns-clause-reached
returns-clause-reached g c = c.counted.ensures.reached

pub returns-in_err-bases-clause-reached : goal.returns-in_err-bases-clause-reached
returns-in_err-bases-clause-reached g c = c.counted.ensures.reached

pub returns-in_err-bases-clause-count : goal.returns-in_err-bases-clause-count
returns-in_err-bases-clause-count g c = count_err _ c.in_err-bases.field-0.0 _ _ c.from_residual.ensures.1 c.in_err-bases.ensures.count

pub returns-in_err-bases-clause-cause : goal.returns-in_err-bases-clause-cause
returns-in_err-bases-clause-cause g c = cause_err _ c.in_err-bases.field-0.0 c.from_residual.ensures.1 c.in_err-bases.ensures.cause

pub returns-in_err-bases-clause-history : goal.returns-in_err-bases-clause-history
returns-in_err-bases-clause-history g c = c.counted.ensures.history

pub returns-in_err-bases-clause-held : goal.returns-in_err-bases-clause-held
returns-in_err-bases-clause-held g c = c.counted.ensures.held

pub returns-clause-history : goal.returns-clause-history
returns-clause-history g c = c.counted.ensures.history

pub returns-clause-count : goal.returns-clause-count
returns-clause-count g c = c.in_ok-bases.ensures.count

pub returns-clause-held : goal.returns-clause-held
returns-clause-held g c = c.counted.ensures.held

pub returns-clause-once : goal.returns-clause-once
returns-clause-once g c = c.in_ok-bases.ensures.once
