-- What is added for a setting with the name that is looked up.
use Rattle.std.proofs.Common.{◌≡◌, ◌↔◌, ◌++◌, ◌∷◌, [], ℕ, List, Bool, true, cond, IsTrue, Option, sym, ap, ◌∙◌}
use Rattle.std.specs.Prelude.{nat_eq}
use Rattle.std.specs.Borrow.{Bor}
use Rattle.std.specs.Cmp.Lexicographic.{pointwise}
use Rattle.std.proofs.lemmas.List.{map-append}
use Rattle.gix_config.specs.declared.text.Entry.{Entry}
use Rattle.gix_config.specs.Values.{value_in, values_of, shown, all_shown}
use Rattle.gix_config.proofs.Texts.{same_text}

picked : {X : Type 0} (x y : List ℕ) (b : Bool) (u v : X) → IsTrue b ↔ (x ≡ y) → b ≡ true → cond (pointwise nat_eq x y) u v ≡ u
picked x y b u v is t = ap (λ c. cond c u v) ((same_text x y).1 (is.0 t))

pub pushed : {A : Type 0} (old new : List (Option (Bor (List ℕ)))) (v : Option (Bor (List ℕ))) (name : List ℕ) (e : Entry A) (b : Bool)
    → new ≡ old ++ (v ∷ []) → shown v ≡ value_in e → IsTrue b ↔ (e.name.items ≡ name) → b ≡ true → all_shown new ≡ all_shown old ++ values_of name (e ∷ [])
pushed old new v name e b more is named t =
    ap (λ l. all_shown l) more ∙ map-append shown old (v ∷ [])
    ∙ ap (λ x. all_shown old ++ (x ∷ [])) is
    ∙ ap (λ x. all_shown old ++ x) (sym (picked e.name.items name b (value_in e ∷ []) [] named t))
