-- What a short name stands for: gitrevisions, `<refname>`.
use Rattle.std.specs.Prelude.{ℕ, List, [], ◌∷◌, ◌++◌, Bool, Option, None, Some, is_some, codes}
use Rattle.gix_ref_text.specs.Known.{Known}
use Rattle.gix_ref_text.specs.Leads.{Leads, EndsAt, Nowhere, ToGarbage, TooFar, name_leads}
use Rattle.gix_ref_text.specs.Found.{ends_at}
use Rattle.gix_ref_text.specs.declared.rules.Named.{Named}

-- The full names of a short one by git's six rules, the one that wins first.
abbrev pub full_names : List ℕ → List (List ℕ)
full_names short = short ∷ (codes "refs/" ++ short) ∷ (codes "refs/tags/" ++ short) ∷ (codes "refs/heads/" ++ short)
    ∷ (codes "refs/remotes/" ++ short) ∷ (codes "refs/remotes/" ++ short ++ codes "/HEAD") ∷ []

-- What a short name means: the full name by the rule that wins, where that leads, and whether a
-- further rule leads to an id, too.
pub record Meant : Type 0 where
  pub full : List ℕ
  pub at : Leads
  pub is_ambiguous : Bool

-- What a full name means before others: one that leads to an id wins.
abbrev pub wins : Leads → List ℕ → Option Meant → Option Meant
wins (EndsAt name id peeled) full others = Some (record { full = full; at = EndsAt name id peeled; is_ambiguous = is_some others })
wins Nowhere full others = others
wins ToGarbage full others = others
wins TooFar full others = others

-- What the first of some full names means that leads to an id, before others.
abbrev pub first_found : List (List ℕ) → (List ℕ → Leads) → Option Meant → Option Meant
first_found [] leads others = others
first_found (full ∷ rest) leads others = wins (leads full) full (first_found rest leads others)

-- What a short name means, as far as files were read.
abbrev pub short_means : Known → List ℕ → Option Meant
short_means known short = first_found (full_names short) (λ full. name_leads known full) None

-- What a reference means that the program found.
abbrev pub meant : {A : Type 0} → Named A → Meant
meant n = record { full = n.name.items; at = ends_at n.reference; is_ambiguous = n.is_ambiguous }
