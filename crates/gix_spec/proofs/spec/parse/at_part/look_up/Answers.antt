use Rattle.std.proofs.Common.{refl}
use Rattle.gix_spec.proofs.Runs.{performs_asks}
use Rattle.gix_spec.proofs.spec.parse.at_part.look_up.Goals as goal

pub returns : goal.returns
returns g c = performs_asks g.D.Listener.step (λ more. refl) c.call_asked.ensures.known (rw c.time_of-time.ensures at c.call_asked.ensures.asks)
