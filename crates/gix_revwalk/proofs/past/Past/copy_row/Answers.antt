use Rattle.std.proofs.Common.{◌∙◌, refl}
use Rattle.gix_revwalk.proofs.past.Past.copy_row.Goals as goal

pub returns-in_default-clause-same : goal.returns-in_default-clause-same
returns-in_default-clause-same g c = c.guess.ensures ∙ c.loop-i.invariant.same

pub returns-in_default-push-clause-same : goal.returns-in_default-push-clause-same
returns-in_default-push-clause-same g c = c.guess.ensures ∙ c.loop-i.invariant.same

pub returns-clause-same : goal.returns-clause-same
returns-clause-same g c = c.loop-i.invariant.same

pub loop-i-init : goal.loop-i-init
loop-i-init g c = record { copied = rw c.requires.empty refl; same = refl }
