use Rattle.gix_resolve.specs.RevParse.{names_first}
use Rattle.gix_resolve.proofs.AnOutcome.{an_outcome}
use Rattle.gix_resolve.proofs.laws.texts_have_a_rev_outcome.Goals as goal

pub returns : goal.returns
returns c = λ known history. an_outcome (names_first known history) c.refusals_are_said.ensures
