-- What answers say of references.
use Rattle.std.specs.Prelude.{Option, Some, None, Result, Ok, Err}
use Rattle.std.specs.Option.{option_map}
use Rattle.gix_ref_text.specs.Loose.{Says, HasId, LeadsTo, IsGarbage}
use Rattle.gix_ref_text.specs.Leads.{Leads, Nowhere, ToGarbage, TooFar}
use Rattle.gix_ref_text.specs.Found.{ends_at}
use Rattle.gix_ref_text.specs.declared.leads.Reference.{Reference}
use Rattle.gix_ref.specs.declared.error.Error.{Error}
use Rattle.gix_ref.specs.declared.error.Error.TheVariants.{Failed, NotUtf8, Damaged, Unexpected, Broken, TooDeep, OutOfMemory}
use Rattle.gix_ref.specs.declared.find.Target.{Target}
use Rattle.gix_ref.specs.declared.find.Target.TheVariants as target

-- What the target of a reference says.
abbrev pub target_says : {A : Type 0} → Target A → Says
target_says (target.Id id peeled) = HasId id.0 (option_map (λ p. p.0) peeled)
target_says (target.Symbolic name) = LeadsTo name.items

-- What an answer says of a reference; nothing if files or memory failed, or if it is `TooDeep`.
abbrev pub answer_says : {A : Type 0} → Result (Option (Target A)) Error → Option (Option Says)
answer_says (Ok found) = Some (option_map target_says found)
answer_says (Err (Broken name)) = Some (Some IsGarbage)
answer_says (Err (TooDeep name)) = None
answer_says (Err (Failed name kind)) = None
answer_says (Err (NotUtf8 name)) = None
answer_says (Err (Damaged name)) = None
answer_says (Err (Unexpected name)) = None
answer_says (Err OutOfMemory) = None

-- Where an answer says that a reference leads; nothing if files or memory failed.
abbrev pub answer_leads : {A : Type 0} → Result (Option (Reference A)) Error → Option Leads
answer_leads (Ok (Some reference)) = Some (ends_at reference)
answer_leads (Ok None) = Some Nowhere
answer_leads (Err (Broken name)) = Some ToGarbage
answer_leads (Err (TooDeep name)) = Some TooFar
answer_leads (Err (Failed name kind)) = None
answer_leads (Err (NotUtf8 name)) = None
answer_leads (Err (Damaged name)) = None
answer_leads (Err (Unexpected name)) = None
answer_leads (Err OutOfMemory) = None
