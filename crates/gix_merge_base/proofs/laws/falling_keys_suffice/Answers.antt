use Rattle.gix_merge_base.proofs.KeyOrder.{falls_acyclic, falls_never}
use Rattle.gix_merge_base.proofs.laws.falling_keys_suffice.Goals as goal

pub returns : goal.returns
returns c = λ h ids falls. (falls_acyclic h ids falls, falls_never h ids falls)
