use Rattle.std.proofs.Common.{◌≡◌, ◌-◌, ap, ◌∙◌, arith}
use Rattle.gix_ref.specs.Known.{known}
use Rattle.gix_ref_text.specs.Leads.{leads}
use Rattle.gix_ref.proofs.Knows.{grows-trans}
use Rattle.gix_ref.proofs.Leads.{led-on}
use Rattle.gix_ref.proofs.store.References.follow_on.Goals as goal

pub returns-in-Done-clause-grows : goal.returns-in-Done-clause-grows
returns-in-Done-clause-grows g c = grows-trans _ _ _ c.loop.invariant.0 c.in_ok-found.ensures.grows

pub returns-in-Done-clause-led : goal.returns-in-Done-clause-led
returns-in-Done-clause-led g c = λ later grows.
    led-on _ _ c.loop-test.true _ (known c.look_up.new.self) later _ _ _ _ _ _ c.loop.invariant.1 c.in_ok-found.ensures.grows c.deref.ensures.value
    c.in_ok-found.ensures.found c.next_step.ensures c.in-Done.is grows

pub loop-preserved : goal.loop-preserved
loop-preserved g c = (
  grows-trans _ _ _ c.loop.invariant.0 c.in_ok-found.ensures.grows,
  λ later grows.
      led-on _ _ c.loop-test.true _ (known c.look_up.new.self) later _ _ _ _ _ _ c.loop.invariant.1 c.in_ok-found.ensures.grows c.deref.ensures.value
      c.in_ok-found.ensures.found c.next_step.ensures c.in-Next.is grows,
)

pub returns-clause-led : goal.returns-clause-led
returns-clause-led g c = λ later grows.
    let none : c.args.most - c.loop.counter ≡ 0 = omega (arith, c.loop-test.false, c.loop.auto.counter-end) in
    c.loop.invariant.1 later grows ∙ ap (λ n. leads n later c.loop.last.items) none
