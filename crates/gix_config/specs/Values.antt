-- The values of settings.
use Rattle.std.specs.Prelude.{ℕ, List, [], ◌∷◌, Option, None, cond, nat_eq, map}
use Rattle.std.specs.Option.{option_map}
use Rattle.std.specs.Borrow.{Bor}
use Rattle.std.specs.List.{last_or}
use Rattle.std.specs.Cmp.Lexicographic.{pointwise}
use Rattle.gix_config.specs.declared.text.Entry.{Entry}

-- The bytes behind a reference, if there is one.
abbrev pub shown : Option (Bor (List ℕ)) → Option (List ℕ)
shown v = option_map (λ r. r.now) v

-- The bytes behind each reference of a list, if there is one.
abbrev pub all_shown : List (Option (Bor (List ℕ))) → List (Option (List ℕ))
all_shown vs = map shown vs

-- The value of a setting; None if it has no "=".
abbrev pub value_in : {A : Type 0} → Entry A → Option (List ℕ)
value_in e = option_map (λ v. v.items) e.value

-- The values of all settings with this name, in their order (git-config, "--get-all").
abbrev pub values_of : {A : Type 0} → List ℕ → List (Entry A) → List (Option (List ℕ))
values_of name [] = []
values_of name (e ∷ es) = cond (pointwise nat_eq e.name.items name) (value_in e ∷ values_of name es) (values_of name es)

-- The last value of the settings with this name, if there is one (git-config, "--get").
abbrev pub last_value : {A : Type 0} → List ℕ → List (Entry A) → Option (Option (List ℕ))
last_value name es = last_or None (values_of name es)
