use Rattle.std.below.core.proofs.iter.Serving.{as_err}
use Rattle.gix_resolve.proofs.StepAsked.{asked_start}
use Rattle.gix_resolve.proofs.StepTaken.{on_start, on_step}
use Rattle.gix_resolve.proofs.history.stepped.Goals as goal

pub returns-in_err-take_in-clause-taken : goal.returns-in_err-take_in-clause-taken
returns-in_err-take_in-clause-taken g c =
    on_start (g.S.Find.history c.args.graph.now.source) c.args.state.current c.in-Some.id c.in-Some.is c.args.kind c.args.graph.now c.take_in.new.graph c.take_in.ensures.taken

pub returns-in-None-clause-taken : goal.returns-in-None-clause-taken
returns-in-None-clause-taken g c =
    let h = g.S.Find.history c.args.graph.now.source in
    on_step h c.args.state.current c.in-Some.id c.in-Some.is c.args.kind c.args.graph.now c.take_in.new.graph c.step.new.graph c.take_in.ensures.taken (rw c.take_in.ensures.after.same_history at c.step.ensures.taken)

pub returns-in_err-take_in-clause-lacks : goal.returns-in_err-take_in-clause-lacks
returns-in_err-take_in-clause-lacks g c = λ yes.
    asked_start (g.S.Find.history c.args.graph.now.source) c.args.state.current c.in-Some.id c.in-Some.is c.args.kind c.take_in.new.graph c.in_err-take_in.ensures.lacks

pub returns-in_err-found-clause-taken : goal.returns-in_err-found-clause-taken
returns-in_err-found-clause-taken g c =
    let h = g.S.Find.history c.args.graph.now.source in
    on_step h c.args.state.current c.in-Some.id c.in-Some.is c.args.kind c.args.graph.now c.take_in.new.graph c.step.new.graph c.take_in.ensures.taken (rw c.take_in.ensures.after.same_history at c.step.ensures.taken)

pub returns-in_err-take_in-clause-there : goal.returns-in_err-take_in-clause-there
returns-in_err-take_in-clause-there g c = rw (as_err c.from_residual.ensures.0).1 tt

pub returns-in_err-found-clause-there : goal.returns-in_err-found-clause-there
returns-in_err-found-clause-there g c = rw (as_err c.from_residual-in_err-found.ensures.0).1 tt
