-- The fields of a line.
use Rattle.std.specs.Prelude.{ℕ, Bool, List, [], Option, None, Some, ◌==◌}
use Rattle.std.specs.List.{slice_split}

-- A byte is a space, which separates two fields, if it is 32.
abbrev pub is_space : ℕ → Bool
is_space b = b == 32

-- The fields of a line are its parts before, between and after its spaces. Between two spaces in a
-- row there is an empty field.
abbrev pub fields_of : List ℕ → List (List ℕ)
fields_of line = slice_split is_space line

-- The fields of the rest of a line. If there is no rest, there are no fields.
abbrev pub fields_of_rest : Option (List ℕ) → List (List ℕ)
fields_of_rest None = []
fields_of_rest (Some rest) = fields_of rest
