-- The commits of a file, if there is one.
use Rattle.std.specs.Prelude.{ℕ, List, [], Option, None, Some}
use Rattle.gix_revwalk.specs.History.{History}
use Rattle.gix_commitgraph.specs.FileCommits.{history_in}

-- The history of a file, or the empty history if there is no file.
abbrev pub in_file : Option (List ℕ) → History
in_file None = []
in_file (Some file) = history_in file
