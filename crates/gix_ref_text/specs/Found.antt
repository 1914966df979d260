-- What look-ups of references found.
use Rattle.std.specs.Prelude.{ℕ, List}
use Rattle.std.specs.Option.{option_map}
use Rattle.gix_ref_text.specs.Loose.{Says, HasId, LeadsTo, IsGarbage}
use Rattle.gix_ref_text.specs.Leads.{Leads, EndsAt, Nowhere, ToGarbage, TooFar}
use Rattle.gix_ref_text.specs.declared.leads.Found.{Found}
use Rattle.gix_ref_text.specs.declared.leads.Found.TheVariants as found
use Rattle.gix_ref_text.specs.declared.leads.Led.{Led}
use Rattle.gix_ref_text.specs.declared.leads.Led.TheVariants as led
use Rattle.gix_ref_text.specs.declared.leads.Reference.{Reference}
use Rattle.gix_ref_text.specs.declared.leads.Step.{Step}
use Rattle.gix_ref_text.specs.declared.leads.Step.TheVariants as step

-- What was found says.
abbrev pub found_says : {A : Type 0} → Found A → Says
found_says (found.Id id peeled) = HasId id.0 (option_map (λ p. p.0) peeled)
found_says (found.LeadsTo name) = LeadsTo name.items
found_says found.Garbage = IsGarbage

-- Where a reference leads that has an id.
abbrev pub ends_at : {A : Type 0} → Reference A → Leads
ends_at r = EndsAt r.name.items r.id.0 (option_map (λ p. p.0) r.peeled)

-- Where what was found leads.
abbrev pub led_to : {A : Type 0} → Led A → Leads
led_to (led.Ends reference) = ends_at reference
led_to led.Nowhere = Nowhere
led_to (led.Breaks name) = ToGarbage
led_to led.TooFar = TooFar

-- Where one reference leads, if a reference of a name leads further.
abbrev pub step_to : {A : Type 0} → Step A → (List ℕ → Leads) → Leads
step_to (step.Done led) further = led_to led
step_to (step.Next name) further = further name.items
