use Rattle.std.proofs.Common.{refl}
use Rattle.gix_spec.proofs.Runs.{performs_demand}
use Rattle.gix_spec.proofs.spec.parse.calls.call_branch.Goals as goal

pub returns : goal.returns
returns g c = performs_demand g.D.Listener.step (λ m. m) (λ more. refl) c.demanded.ensures.known c.nth_checked_out_branch-answer.ensures c.demanded.ensures.told
