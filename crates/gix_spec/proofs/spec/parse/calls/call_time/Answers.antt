use Rattle.gix_spec.specs.Run.{at_leaf}
use Rattle.gix_spec.proofs.Runs.{asks_demand}
use Rattle.gix_spec.proofs.spec.parse.calls.call_time.Goals as goal

pub returns-in_default-clause-asks : goal.returns-in_default-clause-asks
returns-in_default-clause-asks g c = rw (c.in_default.is, c.fault.ensures) (record { asks = λ onward. at_leaf })

pub returns-clause-asks : goal.returns-clause-asks
returns-clause-asks g c = rw c.in-Some.is (asks_demand g.D.Listener.step c.reflog-answer.ensures c.demanded.ensures.told)
