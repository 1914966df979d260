use Rattle.gix_revwalk.proofs.Ancestors.{has_ancestor}
use Rattle.gix_merge_base.proofs.laws.ancestors_are_commits.Goals as goal

pub returns : goal.returns
returns c = λ h a b path. let has = has_ancestor h a b path in (has.1, has.0)
