use Rattle.std.proofs.Common.{◌≡◌, ◌-◌}
use Rattle.gix_ref_text.specs.Known.{Known, Grows}
use Rattle.gix_ref.specs.Known.{known}
use Rattle.gix_ref_text.specs.Leads.{leads}
use Rattle.gix_ref.proofs.store.References.follow_on.Given as goal

abbrev pub invariant-loop : goal.invariant-loop
invariant-loop g l =
    Grows (known l.fn.self) (known l.self)
    × ((later : Known) → Grows (known l.self) later → leads l.most later l.name ≡ leads (l.most - l.counter) later l.last.items)
