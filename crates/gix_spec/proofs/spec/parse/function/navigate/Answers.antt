use Rattle.gix_spec.specs.Steps.{step_at, navigation}
use Rattle.gix_spec.proofs.Parts.{reads_then, reads_stop}
use Rattle.gix_spec.proofs.Navigation.{navigation-step, navigation_ends}
use Rattle.gix_spec.proofs.spec.parse.function.navigate.Goals as goal

pub returns-in_err-step : goal.returns-in_err-step
returns-in_err-step g c =
    let text = c.steps.rest.now in
    let step = c.in_err-step.ensures in
    c.steps.invariant.onward _ _ _ _ (rw (navigation-step text) (reads_stop g.D.Listener.step (step_at text) navigation step c.from_residual.ensures.1))

pub returns-then-step-rest : goal.returns-then-step-rest
returns-then-step-rest g c =
    let step = c.in_ok-step.ensures in
    c.steps.invariant.onward _ _ _ _ (navigation_ends g.D.Listener.step c.steps.rest.now step (λ e. c.if-step-rest.true))

pub returns-in-Closed : goal.returns-in-Closed
returns-in-Closed g c =
    let step = c.in_ok-step.ensures in
    c.steps.invariant.onward _ _ _ _ (navigation_ends g.D.Listener.step c.steps.rest.now step (λ e. cc))

pub steps-preserved : goal.steps-preserved
steps-preserved g c =
    let text = c.steps.rest.now in
    let step = c.in_ok-step.ensures in
    record { onward = λ w k out error h. c.steps.invariant.onward w k out error (rw (navigation-step text) (reads_then g.D.Listener.step (step_at text) navigation step c.in-Onward.is h)) }
