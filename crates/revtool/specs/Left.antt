-- The rest of a line that is being read.
use Rattle.std.specs.Prelude.{ℕ, List}
use Rattle.std.specs.Option.{option_copied}
use Rattle.revtool.specs.Fields.{fields_of_rest}
use Rattle.revtool.specs.declared.fields.Fields.{Fields}

-- The fields of f that were not taken yet.
abbrev pub left_of : Fields → List (List ℕ)
left_of f = fields_of_rest (option_copied f.left)
