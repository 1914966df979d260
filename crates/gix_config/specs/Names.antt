-- The names of settings.
use Rattle.std.specs.Prelude.{ℕ, List, ◌∷◌, ◌++◌, Option, None, Some}

-- The name of the setting with a section, perhaps a subsection, and a key. A dot (46) is between
-- them (git-config, "CONFIGURATION FILE").
abbrev pub name_of : List ℕ → Option (List ℕ) → List ℕ → List ℕ
name_of section None key = section ++ (46 ∷ key)
name_of section (Some subsection) key = section ++ (46 ∷ (subsection ++ (46 ∷ key)))
