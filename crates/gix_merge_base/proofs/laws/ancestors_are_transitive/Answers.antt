use Rattle.gix_merge_base.proofs.laws.ancestors_are_transitive.Goals as goal
use Rattle.gix_revwalk.proofs.Ancestors.{anc-trans}

pub returns : goal.returns
returns c = anc-trans
