use Rattle.gix_spec.specs.Run.{at_leaf}
use Rattle.gix_spec.proofs.Runs.{asks_demand}
use Rattle.gix_spec.proofs.spec.parse.calls.call_again.Goals as goal

pub returns-in_default-clause-asks : goal.returns-in_default-clause-asks
returns-in_default-clause-asks g c = rw (c.in_default.is, c.fault.ensures) (record { asks = λ onward. at_leaf })

pub returns-in-Head-clause-asks : goal.returns-in-Head-clause-asks
returns-in-Head-clause-asks g c = rw (c.in-Some.is, c.in-Head.is) (asks_demand g.D.Listener.step c.find_ref.ensures c.demanded.ensures.told)

pub returns-in-Reference-clause-asks : goal.returns-in-Reference-clause-asks
returns-in-Reference-clause-asks g c =
    rw (c.in-Some.is, c.in-Reference.is) (asks_demand g.D.Listener.step c.find_ref-in-Reference.ensures c.demanded-in-Reference.ensures.told)

pub returns-in-ByPrefix-clause-asks : goal.returns-in-ByPrefix-clause-asks
returns-in-ByPrefix-clause-asks g c =
    rw (c.in-Some.is, c.in-ByPrefix.is) (asks_demand g.D.Listener.step c.disambiguate_prefix-answer.ensures c.demanded-in-ByPrefix.ensures.told)
