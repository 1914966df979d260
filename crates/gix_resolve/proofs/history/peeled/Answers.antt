use Rattle.std.below.core.proofs.iter.Serving.{as_err}
use Rattle.std.proofs.Common.{rules, ◌≡◌, IsTrue, false}
use Rattle.gix_revision.specs.Call.{target_of, object}
use Rattle.gix_revision.specs.Types.ObjectKind.TheVariants.{Commit}
use Rattle.gix_resolve.proofs.StepAsked.{asked_demand}
use Rattle.gix_resolve.proofs.StepTaken.{on_demand}
use Rattle.gix_resolve.proofs.history.peeled.Goals as goal

pub returns-in_err-take_in-clause-taken : goal.returns-in_err-take_in-clause-taken
returns-in_err-take_in-clause-taken g c =
    let commit : target_of c.args.target ≡ object Commit = search rules in
    on_demand (g.S.Find.history c.args.graph.now.source) c.args.state.current c.in-Some.id c.in-Some.is (target_of c.args.target) c.args.graph.now c.take_in.new.graph commit c.take_in.ensures.taken

pub returns-then-branch-clause-taken : goal.returns-then-branch-clause-taken
returns-then-branch-clause-taken g c =
    let commit : target_of c.args.target ≡ object Commit = search rules in
    on_demand (g.S.Find.history c.args.graph.now.source) c.args.state.current c.in-Some.id c.in-Some.is (target_of c.args.target) c.args.graph.now c.take_in.new.graph commit c.take_in.ensures.taken

pub returns-else-branch-clause-taken : goal.returns-else-branch-clause-taken
returns-else-branch-clause-taken g c =
    let commit : target_of c.args.target ≡ object Commit = search rules in
    on_demand (g.S.Find.history c.args.graph.now.source) c.args.state.current c.in-Some.id c.in-Some.is (target_of c.args.target) c.args.graph.now c.take_in.new.graph commit c.take_in.ensures.taken

pub returns-in_err-take_in-clause-lacks : goal.returns-in_err-take_in-clause-lacks
returns-in_err-take_in-clause-lacks g c = λ yes.
    let commit : target_of c.args.target ≡ object Commit = search rules in
    asked_demand (g.S.Find.history c.args.graph.now.source) c.args.state.current c.in-Some.id c.in-Some.is (target_of c.args.target) c.take_in.new.graph commit c.in_err-take_in.ensures.lacks

pub returns-then-branch-clause-lacks : goal.returns-then-branch-clause-lacks
returns-then-branch-clause-lacks g c = λ yes. let no : IsTrue false = yes in cc

pub returns-in_err-take_in-clause-there : goal.returns-in_err-take_in-clause-there
returns-in_err-take_in-clause-there g c = rw (as_err c.from_residual.ensures.0).1 tt
