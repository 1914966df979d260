use Rattle.std.proofs.Common.{Some, option_map, ◌∙◌}
use Rattle.gix_spec.specs.declared.spec.Kind.TheVariants.{RangeBetween}
use Rattle.gix_spec.specs.declared.spec.parse.fault.Fault.TheVariants.{KindRefused, DoneRefusedInNavigation}
use Rattle.gix_spec.specs.Call.{kind, done}
use Rattle.gix_spec.specs.Context.{call_of}
use Rattle.gix_spec.specs.Trees.{demand, repeat}
use Rattle.gix_spec.proofs.Runs.{asks_demand, asks_then, asks_stop, asks_again}
use Rattle.gix_spec.proofs.spec.parse.calls.call_without_parent.Goals as goal

pub returns-in_err-demanded-clause-asks : goal.returns-in_err-demanded-clause-asks
returns-in_err-demanded-clause-asks g c =
    asks_stop g.D.Listener.step
    (λ onward. demand (kind RangeBetween) (KindRefused RangeBetween) (Some c.args.after.now)
    (repeat (option_map call_of c.args.context.now.anchor) c.args.after.now (demand done DoneRefusedInNavigation (Some c.args.rest.now) onward)))
    (asks_demand g.D.Listener.step c.traverse.ensures c.in_err-demanded.ensures.told) c.from_residual.ensures.1

pub returns-in_err-demanded-2-clause-asks : goal.returns-in_err-demanded-2-clause-asks
returns-in_err-demanded-2-clause-asks g c =
    asks_then g.D.Listener.step (asks_demand g.D.Listener.step c.traverse.ensures c.in_ok-demanded.ensures.told)
    (asks_stop g.D.Listener.step
    (λ onward. repeat (option_map call_of c.args.context.now.anchor) c.args.after.now (demand done DoneRefusedInNavigation (Some c.args.rest.now) onward))
    (asks_demand g.D.Listener.step c.kind.ensures c.in_err-demanded-2.ensures.told) c.from_residual-in_err-demanded-2.ensures.1)

pub returns-in_err-call_again-clause-asks : goal.returns-in_err-call_again-clause-asks
returns-in_err-call_again-clause-asks g c =
    asks_then g.D.Listener.step (asks_demand g.D.Listener.step c.traverse.ensures c.in_ok-demanded.ensures.told)
    (asks_then g.D.Listener.step (asks_demand g.D.Listener.step c.kind.ensures c.in_ok-demanded-2.ensures.told)
    (asks_stop g.D.Listener.step (demand done DoneRefusedInNavigation (Some c.args.rest.now)) (asks_again g.D.Listener.step c.args.after.now (c.in_ok-demanded-2.ensures.known ∙ c.in_ok-demanded.ensures.known) c.in_err-call_again.ensures.asks) c.from_residual-in_err-call_again.ensures.1))

pub returns-clause-asks : goal.returns-clause-asks
returns-clause-asks g c =
    asks_then g.D.Listener.step (asks_demand g.D.Listener.step c.traverse.ensures c.in_ok-demanded.ensures.told)
    (asks_then g.D.Listener.step (asks_demand g.D.Listener.step c.kind.ensures c.in_ok-demanded-2.ensures.told)
    (asks_then g.D.Listener.step (asks_again g.D.Listener.step c.args.after.now (c.in_ok-demanded-2.ensures.known ∙ c.in_ok-demanded.ensures.known) c.in_ok-call_again.ensures.asks) (asks_demand g.D.Listener.step c.done.ensures c.demanded-3.ensures.told)))
