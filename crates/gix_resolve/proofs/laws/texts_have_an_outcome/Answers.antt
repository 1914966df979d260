use Rattle.gix_resolve.specs.Resolved.{digits_first}
use Rattle.gix_resolve.proofs.AnOutcome.{an_outcome}
use Rattle.gix_resolve.proofs.laws.texts_have_an_outcome.Goals as goal

pub returns : goal.returns
returns c = λ known history. an_outcome (digits_first known history) c.refusals_are_said.ensures
