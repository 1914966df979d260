use Rattle.gix_ids.proofs.Gaps.{gap-absent}
use Rattle.gix_ids.proofs.lookup.position.Goals as goal

pub returns-in-Err : goal.returns-in-Err
returns-in-Err c = gap-absent c.args.bytes.now c.args.t c.args.id _ c.in-Err.ensures.place
