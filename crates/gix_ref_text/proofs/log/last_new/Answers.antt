use Rattle.std.proofs.Common.{sym, ap, ◌∙◌}
use Rattle.gix_ref_text.specs.Changes.{last_new}
use Rattle.gix_ref_text.proofs.Changes.{new-last}
use Rattle.gix_ref_text.proofs.log.last_new.Goals as goal

pub returns-in-Some : goal.returns-in-Some
returns-in-Some g c = sym (ap (λ x. last_new x) c.in-Some.ensures.cases.0 ∙ new-last c.in-Some.field-0-1.now c.in-Some.entry.now)
