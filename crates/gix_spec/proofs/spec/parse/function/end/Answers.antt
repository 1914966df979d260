use Rattle.std.proofs.Common.{refl}
use Rattle.gix_spec.proofs.Runs.{performs_fault}
use Rattle.gix_spec.proofs.Readings.{end_at-left}
use Rattle.gix_spec.proofs.spec.parse.function.end.Goals as goal

pub returns : goal.returns
returns g c = rw (end_at-left c.args.rest.now c.if-is_empty.ensures, c.fault.ensures) (performs_fault g.D.Listener.step refl)
