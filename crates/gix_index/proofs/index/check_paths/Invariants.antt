use Rattle.std.proofs.Common.{◌≡◌, drop}
use Rattle.gix_index.specs.IndexPaths.{are_inside}
use Rattle.gix_index.proofs.index.check_paths.Given as goal

-- The entries before this one have paths that are inside.
abbrev pub invariant-loop-number : goal.invariant-loop-number
invariant-loop-number g l = are_inside l.entries ≡ are_inside (drop l.number l.entries)
