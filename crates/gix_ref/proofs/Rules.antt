-- What short names mean, full name by full name.
use Rattle.std.proofs.Common.{◌≡◌, ℕ, List, [], ◌∷◌, ◌++◌, Option, refl, ap, ◌∙◌}
use Rattle.std.specs.Prelude.{map}
use Rattle.std.proofs.lemmas.List.{map-append}
use Rattle.gix_ref_text.specs.Leads.{Leads}
use Rattle.gix_ref_text.specs.Short.{Meant, wins, first_found}

first-append : (ns : List (List ℕ)) (n : List ℕ) (leads : List ℕ → Leads) (others : Option Meant)
    → first_found (ns ++ n ∷ []) leads others ≡ first_found ns leads (wins (leads n) n others)
first-append [] n leads others = refl
first-append (m ∷ ns) n leads others = ap (λ o. wins (leads m) m o) (first-append ns n leads others)

-- The last of some full names counts before the others.
pub last-before : {X : Type 0} (name : X → List ℕ) (old new : List X) (x : X) (leads : List ℕ → Leads) (others : Option Meant)
    → old ≡ new ++ x ∷ [] → first_found (map name old) leads others ≡ first_found (map name new) leads (wins (leads (name x)) (name x) others)
last-before name old new x leads others e =
    ap (λ xs. first_found (map name xs) leads others) e
    ∙ ap (λ ns. first_found ns leads others) (map-append name new (x ∷ []))
    ∙ first-append (map name new) (name x) leads others
