-- The names of options, and what a name means (git's api-parse-options).
use Rattle.std.specs.Prelude.{◌≡◌, ◌≢◌, ℕ, List, [], ◌++◌, ◌⊎◌, Bool, true, false, IsTrue, Some, slice_get, codes}
use Rattle.parse_options.specs.declared.choice.Choice.{Choice}

-- The text no-, which stands before a name that takes an option back.
abbrev pub no : List ℕ
no = codes "no-"

-- An option has the form NAME if it has a long name, and the form no-NAME if it allows this, too.
abbrev pub HasForm : {K : Type 0} → Choice K → (is_no : Bool) → Type 0
HasForm choice false = choice.long.now ≢ []
HasForm choice true = (choice.long.now ≢ []) × IsTrue choice.has_no

-- The name of an option in a form.
abbrev pub name_of : {K : Type 0} → Choice K → (is_no : Bool) → List ℕ
name_of choice false = choice.long.now
name_of choice true = no ++ choice.long.now

-- An option has exactly this name in a form.
abbrev pub IsNamed : {K : Type 0} → Choice K → (is_no : Bool) → List ℕ → Type 0
IsNamed choice is_no name = HasForm choice is_no × (name_of choice is_no ≡ name)

-- The name of an option in a form begins with name.
abbrev pub IsBegun : {K : Type 0} → Choice K → (is_no : Bool) → List ℕ → Type 0
IsBegun choice is_no name = HasForm choice is_no × ((rest : List ℕ) × (name_of choice is_no ≡ name ++ rest))

-- The option at a place of a table is such a one.
abbrev pub At : {X : Type 0} → List X → (place : ℕ) → (X → Type 0) → Type 0
At {X} table place IsSuch = (x : X) × (slice_get table place ≡ Some x) × IsSuch x

-- The option at place has exactly this name in the form is_no.
abbrev pub HasName : {K : Type 0} → List (Choice K) → List ℕ → (place : ℕ) → (is_no : Bool) → Type 0
HasName choices name place is_no = At choices place (λ choice. IsNamed choice is_no name)

-- The option at place has a name in the form is_no that begins with name.
abbrev pub Begins : {K : Type 0} → List (Choice K) → List ℕ → (place : ℕ) → (is_no : Bool) → Type 0
Begins choices name place is_no = At choices place (λ choice. IsBegun choice is_no name)

-- Of all names of all options, only that of the option at place in the form is_no begins with name
-- (gitcli, "Abbreviating long options").
pub record IsOnly {K : Type 0} (choices : List (Choice K)) (name : List ℕ) (place : ℕ) (is_no : Bool) : Type 0 where
  pub begins : Begins choices name place is_no
  pub only : (other : ℕ) (form : Bool) → Begins choices name other form → (other ≡ place) × (form ≡ is_no)

-- No option has exactly this name.
abbrev pub HasNone : {K : Type 0} → List (Choice K) → List ℕ → Type 0
HasNone choices name = (place : ℕ) (is_no : Bool) → HasName choices name place is_no → ⊥

-- A name means an option that has exactly this name. If none has it, the name means the option with
-- the only name that begins so (gitcli, "Abbreviating long options").
abbrev pub Means : {K : Type 0} → List (Choice K) → List ℕ → (place : ℕ) → (is_no : Bool) → Type 0
Means choices name place is_no = HasName choices name place is_no
    ⊎ (HasNone choices name × IsOnly choices name place is_no)
