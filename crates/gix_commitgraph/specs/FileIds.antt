-- The ids of a file (gitformat-commit-graph, "OID Lookup").
use Rattle.std.specs.Prelude.{ℕ, List, map}
use Rattle.gix_base.specs.declared.hash.ObjectId.{ObjectId}
use Rattle.gix_revwalk.specs.History.{Entry}
use Rattle.gix_commitgraph.specs.FileCommits.{history_in}

-- The ids of the commits of the file s, in the order of their positions.
abbrev pub ids_in : List ℕ → List ObjectId
ids_in s = map (λ (e : ObjectId × Entry). e.0) (history_in s)
