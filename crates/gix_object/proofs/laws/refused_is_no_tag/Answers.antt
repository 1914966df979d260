use Rattle.gix_object.proofs.OneTag.{no-tag, one-error}
use Rattle.gix_object.proofs.laws.refused_is_no_tag.Goals as goal

pub returns-clause-none : goal.returns-clause-none
returns-clause-none c = no-tag

pub returns-clause-one : goal.returns-clause-one
returns-clause-one c = one-error
