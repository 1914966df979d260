use Rattle.gix_ref_text.proofs.Cut.{first-found, first-missed}
use Rattle.gix_ref_text.proofs.lines.len_before.Goals as goal

pub returns-in-Some-clause-value : goal.returns-in-Some-clause-value
returns-in-Some-clause-value c = first-found _ _ _ c.in-Some.ensures.0 c.in-Some.ensures.1

pub returns-in-None-clause-value : goal.returns-in-None-clause-value
returns-in-None-clause-value c = first-missed _ _ c.in-None.ensures
