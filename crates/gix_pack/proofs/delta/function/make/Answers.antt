use Rattle.std.proofs.Common.{◌≡◌, ◌<◌, ◌+◌, length, refl, ap, ◌∙◌, arith, length-append}
use Rattle.std.proofs.lemmas.Result.{err_from_is_err_and}
use Rattle.gix_pack.proofs.Made.{followed-step, followed-end, too-long, unmade}
use Rattle.gix_pack.proofs.delta.function.make.Goals as goal

pub returns-in_err-step-clause-stopped : goal.returns-in_err-step-clause-stopped
returns-in_err-step-clause-stopped g c =
    let some : 0 < length c.steps.rest.now = grind arith in
    let p = err_from_is_err_and c.from_residual-in_err-step.result c.from_residual-in_err-step.ensures.1 in
    rw (p.1, p.2) (unmade c.args.base.now c.args.text.now c.steps.rest.now c.steps.target.items c.args.size _ c.steps.invariant.followed some c.in_err-step.ensures.step c.in_err-step.ensures.fault)

pub returns-then-step-size-clause-stopped : goal.returns-then-step-size-clause-stopped
returns-then-step-size-clause-stopped g c =
    let some : 0 < length c.steps.rest.now = grind arith in
    let long : c.args.size < length c.steps.target.items + length c.in_ok-step.step.added.now = grind arith in
    too-long c.args.base.now c.args.text.now c.steps.rest.now c.steps.target.items c.args.size _ c.steps.invariant.followed some c.in_ok-step.ensures.step long

pub steps-preserved : goal.steps-preserved
steps-preserved g c =
    let some : 0 < length c.steps.rest.now = grind arith in
    let items = c.in_ok-extend_from_slice.ensures.items in
    let sum : length c.extend_from_slice.new.self.items ≡ length c.steps.target.items + length c.in_ok-step.step.added.now = ap length items ∙ length-append c.steps.target.items c.in_ok-step.step.added.now in
    record {
      followed = followed-step c.args.base.now c.args.text.now c.steps.rest.now c.steps.target.items _ _ _ c.steps.invariant.followed some c.in_ok-step.ensures.step refl items;
      within = grind (arith, sum);
    }

pub returns-clause-made : goal.returns-clause-made
returns-clause-made g c =
    let none : length c.steps.rest.now ≡ 0 = grind arith in
    (followed-end c.args.base.now c.args.text.now c.steps.rest.now c.steps.target.items c.steps.invariant.followed none, grind arith)
