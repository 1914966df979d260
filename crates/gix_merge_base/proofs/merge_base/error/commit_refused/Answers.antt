use Rattle.std.proofs.Common.{refl}
use Rattle.gix_merge_base.proofs.merge_base.error.commit_refused.Goals as goal

pub returns-in-Source-clause-same : goal.returns-in-Source-clause-same
returns-in-Source-clause-same c = rw c.in-Source.is refl
