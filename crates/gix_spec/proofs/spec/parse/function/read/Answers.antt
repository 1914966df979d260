use Rattle.std.proofs.Common.{refl}
use Rattle.gix_spec.proofs.Runs.{performs_fault}
use Rattle.gix_spec.proofs.spec.parse.function.read.Goals as goal

pub returns-in-Err : goal.returns-in-Err
returns-in-Err g c = rw (c.in-Err.is, c.fault.ensures) (record { calls = performs_fault g.D.Listener.step refl; behind = tt })
