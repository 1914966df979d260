use Rattle.gix_describe.proofs.LookedUp.{asks_hand}
use Rattle.gix_describe.proofs.describe.met.asked_for.Goals as goal

pub returns-in-Err-clause-asked : goal.returns-in-Err-clause-asked
returns-in-Err-clause-asked g c h =
    rw c.refused_for.ensures (asks_hand g.S.Find.history g.S.Find.fault_count h c.args.child _ _ c.in-Err.error c.ask_time.result c.in-Err.is c.ask_time.ensures.history c.ask_time.ensures.count)
