use Rattle.gix_object.proofs.OneCommit.{no-commit, one-error}
use Rattle.gix_object.proofs.laws.refused_is_no_commit.Goals as goal

pub returns-clause-none : goal.returns-clause-none
returns-clause-none c = no-commit

pub returns-clause-one : goal.returns-clause-one
returns-clause-one c = one-error
