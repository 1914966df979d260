-- Where references lead: git-symbolic-ref; gitrepository-layout, "refs".
use Rattle.std.specs.Prelude.{◌≡◌, ℕ, zero, suc, List, cond, Option, None, Some}
use Rattle.gix_ref_text.specs.Loose.{Says, HasId, LeadsTo, IsGarbage}
use Rattle.gix_ref_text.specs.Names.{is_name}
use Rattle.gix_ref_text.specs.Known.{Known, Grows, says}

-- Where a reference leads. EndsAt is a name, its id, and the object to which a tag of this id
-- leads, if that is known. Nowhere is a reference that is missing, ToGarbage one that says garbage.
-- TooFar is further than references are read.
pub data Leads : Type 0 where
  EndsAt : List ℕ → List ℕ → Option (List ℕ) → Leads
  Nowhere : Leads
  ToGarbage : Leads
  TooFar : Leads

-- Where a reference of this name leads by what it says. If it says the name of another reference,
-- it leads where further says of that name.
abbrev pub leads_by : Option Says → List ℕ → (List ℕ → Leads) → Leads
leads_by None name further = Nowhere
leads_by (Some (HasId id peeled)) name further = EndsAt name id peeled
leads_by (Some (LeadsTo next)) name further = further next
leads_by (Some IsGarbage) name further = ToGarbage

-- Where a reference leads if at most so many references are read.
abbrev pub leads : ℕ → Known → List ℕ → Leads
leads zero known name = TooFar
leads (suc most) known name = leads_by (says known name) name (λ next. leads most known next)

-- Where the reference of a text leads, over five references at most. It leads nowhere if the text
-- is not the name of a reference.
abbrev pub name_leads : Known → List ℕ → Leads
name_leads known name = cond (is_name name) (leads 5 known name) Nowhere

-- What the reference of a text says. It says nothing if the text is not the name of a reference.
abbrev pub name_says : Known → List ℕ → Option Says
name_says known name = cond (is_name name) (says known name) None

-- What is known settles a value: whatever more is read later, the value is equal to found.
abbrev pub Settles : {V : Type 0} → Known → (Known → V) → V → Type 0
Settles known value found = (later : Known) → Grows known later → value later ≡ found
