use Rattle.std.proofs.Common.{◌≡◌, drop}
use Rattle.gix_index.specs.Clean.{is_clean}
use Rattle.gix_index.proofs.clean.first_difference.Given as goal

-- The entries and files that are left decide.
abbrev pub invariant-loop-one : goal.invariant-loop-one
invariant-loop-one g l = is_clean l.looked l.files ≡ is_clean (drop l.one-index l.looked) l.left
