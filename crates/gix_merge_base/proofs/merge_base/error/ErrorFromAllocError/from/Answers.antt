use Rattle.std.proofs.Common.{refl}
use Rattle.gix_merge_base.proofs.merge_base.error.ErrorFromAllocError.from.Goals as goal

pub returns : goal.returns
returns c = refl
