use Rattle.std.proofs.Common.{Some}
use Rattle.gix_spec.specs.declared.spec.parse.fault.Fault.TheVariants.{DoneRefusedInNavigation}
use Rattle.gix_spec.specs.Call.{done}
use Rattle.gix_spec.specs.Trees.{demand}
use Rattle.gix_spec.proofs.Runs.{asks_demand, asks_then, asks_stop}
use Rattle.gix_spec.proofs.spec.parse.calls.call_closer.Goals as goal

pub returns-in_err-demanded-clause-asks : goal.returns-in_err-demanded-clause-asks
returns-in_err-demanded-clause-asks g c =
    asks_stop g.D.Listener.step (demand done DoneRefusedInNavigation (Some c.args.rest.now))
    (asks_demand g.D.Listener.step c.kind.ensures c.in_err-demanded.ensures.told) c.from_residual.ensures.1

pub returns-clause-asks : goal.returns-clause-asks
returns-clause-asks g c =
    asks_then g.D.Listener.step (asks_demand g.D.Listener.step c.kind.ensures c.in_ok-demanded.ensures.told)
    (asks_demand g.D.Listener.step c.done.ensures c.demanded-2.ensures.told)
