use Rattle.std.proofs.Common.{◌∙◌, ap, sym, None}
use Rattle.gix_ref_text.specs.Leads.{name_leads}
use Rattle.gix_ref_text.specs.Short.{first_found}
use Rattle.gix_ref.proofs.Knows.{if_ok}
use Rattle.gix_ref.proofs.store.References.by_rules.Goals as goal

pub returns : goal.returns
returns g c = if_ok c.first_found.result (λ found is later grows.
    ap (λ names. first_found names (λ full. name_leads later full) None) (sym c.in_ok-names.ensures) ∙ is later grows) c.first_found.ensures
