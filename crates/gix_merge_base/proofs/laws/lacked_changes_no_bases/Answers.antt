use Rattle.gix_merge_base.proofs.Lacked.{same-bases}
use Rattle.gix_merge_base.proofs.laws.lacked_changes_no_bases.Goals as goal

pub returns : goal.returns
returns c = λ h f lacked before after absent differs some. same-bases h f lacked before after absent differs some
