use Rattle.std.proofs.Common.{refl}
use Rattle.gix_spec.proofs.Runs.{performs_demand}
use Rattle.gix_spec.proofs.spec.parse.calls.call_exclude.Goals as goal

pub returns : goal.returns
returns g c = performs_demand g.D.Listener.step (λ m. m) (λ more. refl) c.demanded.ensures.known c.kind.ensures c.demanded.ensures.told
