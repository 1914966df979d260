-- Where references lead, step by step.
use Rattle.std.proofs.Common.{◌≡◌, ℕ, suc, ◌+◌, ◌-◌, ◌<◌, List, Option, ap, sym, ◌∙◌, arith}
use Rattle.std.specs.Option.{option_map}
use Rattle.gix_ref_text.specs.Loose.{Says}
use Rattle.gix_ref_text.specs.Known.{Known, Grows, says}
use Rattle.gix_ref_text.specs.Leads.{Leads, leads_by, leads, Settles}
use Rattle.gix_ref_text.specs.Found.{found_says, step_to}
use Rattle.gix_ref_text.specs.declared.leads.Found.{Found}
use Rattle.gix_ref_text.specs.declared.leads.Step.{Step}
use Rattle.gix_ref.proofs.Knows.{grows-trans}

-- A reference that is read leads by what it says.
by-says : (most read : ℕ) → read < most → (k : Known) (name : List ℕ) (said : Option Says) → says k name ≡ said
    → leads (most - read) k name ≡ leads_by said name (λ next. leads (most - (read + 1)) k next)
by-says most read less k name said e =
    let count : most - read ≡ suc (most - (read + 1)) = omega (arith, less) in
    ap (λ n. leads n k name) count ∙ ap (λ s. leads_by s name (λ next. leads (most - (read + 1)) k next)) e

-- After some references were read a name leads as the last one does, and that leads by the step
-- that was taken.
pub led-on : {A : Type 0} → (most read : ℕ) → read < most → (before now later : Known) (first name seen : List ℕ) (found : Option (Found A)) (taken step : Step A)
    → ((k : Known) → Grows before k → leads most k first ≡ leads (most - read) k name) → Grows before now → seen ≡ name
    → Settles now (λ k. says k seen) (option_map found_says found)
    → ((further : List ℕ → Leads) → step_to taken further ≡ leads_by (option_map found_says found) name further) → taken ≡ step → Grows now later
    → leads most later first ≡ step_to step (λ next. leads (most - (read + 1)) later next)
led-on most read less before now later first name seen found taken step invariant grows same settles takes is after =
    invariant later (grows-trans before now later grows after)
    ∙ by-says most read less later name (option_map found_says found) (ap (λ n. says later n) (sym same) ∙ settles later after)
    ∙ sym (takes (λ next. leads (most - (read + 1)) later next))
    ∙ ap (λ s. step_to s (λ next. leads (most - (read + 1)) later next)) is
