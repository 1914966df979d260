use Rattle.gix_describe.proofs.WalkSteps.{ok_when}
use Rattle.gix_describe.proofs.describe.queue.put.Goals as goal

pub returns : goal.returns
returns g c = ok_when c.insert.result c.is_err.result _ c.is_err.ensures.value c.if-is_err.false c.insert.ensures.ok
