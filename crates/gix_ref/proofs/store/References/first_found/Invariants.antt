use Rattle.std.proofs.Common.{◌≡◌, ◌+◌, length, None}
use Rattle.std.specs.Prelude.{map}
use Rattle.std.specs.Option.{option_map}
use Rattle.gix_ref_text.specs.Known.{Known, Grows}
use Rattle.gix_ref.specs.Known.{known}
use Rattle.gix_ref_text.specs.Leads.{name_leads}
use Rattle.gix_ref_text.specs.Short.{first_found, meant}
use Rattle.gix_ref.proofs.store.References.first_found.Given as goal

abbrev pub invariant-loop : goal.invariant-loop
invariant-loop g l =
    (length l.names.items + l.counter ≡ length l.fn.names.items)
    × ((later : Known) → Grows (known l.self) later → first_found (map (λ n. n.items) l.fn.names.items) (λ full. name_leads later full) None
    ≡ first_found (map (λ n. n.items) l.names.items) (λ full. name_leads later full) (option_map meant l.found))
