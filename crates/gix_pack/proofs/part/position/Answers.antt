use Rattle.gix_ids.proofs.Gaps.{gap-absent}
use Rattle.gix_pack.proofs.part.position.Goals as goal

pub returns-in-Err : goal.returns-in-Err
returns-in-Err c = λ rise. gap-absent c.args.ids.now _ c.args.id _ (c.in-Err.ensures rise)
