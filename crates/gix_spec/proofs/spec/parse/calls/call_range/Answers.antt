use Rattle.std.proofs.Common.{refl}
use Rattle.gix_spec.specs.Context.{next_revision}
use Rattle.gix_spec.proofs.Runs.{performs_demand, performs_err}
use Rattle.gix_spec.proofs.spec.parse.calls.call_range.Goals as goal

pub returns-in_err-demanded : goal.returns-in_err-demanded
returns-in_err-demanded g c = performs_err g.D.Listener.step (performs_demand g.D.Listener.step next_revision (λ more. refl) c.in_err-demanded.ensures.known c.kind-answer.ensures c.in_err-demanded.ensures.told) c.from_residual.ensures.1

pub returns : goal.returns
returns g c = performs_demand g.D.Listener.step next_revision (λ more. refl) c.in_ok-demanded.ensures.known c.kind-answer.ensures c.in_ok-demanded.ensures.told
