use Rattle.gix_spec.specs.Run.{at_leaf}
use Rattle.gix_spec.proofs.Runs.{asks_demand}
use Rattle.gix_spec.proofs.spec.parse.calls.call_asked.Goals as goal

pub returns-then-context-clause-asks : goal.returns-then-context-clause-asks
returns-then-context-clause-asks g c = rw (c.if-context.true, c.fault.ensures, c.without_name.ensures) (record { asks = λ onward. at_leaf })

pub returns-in-Entry-clause-asks : goal.returns-in-Entry-clause-asks
returns-in-Entry-clause-asks g c = rw (c.if-context.false, c.in-Entry.is) (asks_demand g.D.Listener.step c.reflog-answer.ensures c.demanded.ensures.told)

pub returns-in-Date-clause-asks : goal.returns-in-Date-clause-asks
returns-in-Date-clause-asks g c = rw (c.if-context.false, c.in-Date.is) c.call_time.ensures.asks

pub returns-in-Sibling-clause-asks : goal.returns-in-Sibling-clause-asks
returns-in-Sibling-clause-asks g c =
    rw (c.if-context.false, c.in-Sibling.is) (asks_demand g.D.Listener.step c.sibling_branch-answer.ensures c.demanded-in-Sibling.ensures.told)
