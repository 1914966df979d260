-- Words of ids.
use Rattle.std.specs.Prelude.{ℕ, ◌+◌, List, [], ◌∷◌, slice_index}

-- The eight bytes of xs from place i on.
abbrev pub eight_from : List ℕ → ℕ → List ℕ
eight_from xs i =
    slice_index xs i ∷ slice_index xs (i + 1) ∷ slice_index xs (i + 2) ∷ slice_index xs (i + 3)
    ∷ slice_index xs (i + 4) ∷ slice_index xs (i + 5) ∷ slice_index xs (i + 6) ∷ slice_index xs (i + 7) ∷ []
