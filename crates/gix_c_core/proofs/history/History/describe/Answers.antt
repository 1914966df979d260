use Rattle.gix_c_core.proofs.history.History.describe.Goals as goal

pub returns-in-Partial-clause-described : goal.returns-in-Partial-clause-described
returns-in-Partial-clause-described g c = rw c.in-Partial.is c.describe_partial.ensures.described
