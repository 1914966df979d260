use Rattle.gix_revwalk.specs.History.IsAncestor.{itself}
use Rattle.gix_merge_base.proofs.laws.ancestors_are_reflexive.Goals as goal

pub returns : goal.returns
returns c = λ h a has. itself has
