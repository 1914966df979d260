-- What the answers of a repository speak of.
use Rattle.std.specs.Prelude.{Option, Some, None, ◌++◌}
use Rattle.gix_revwalk.specs.History.{History}

-- The history that an answer speaks of: the commits that were read, and the commits beyond them. If
-- all was loaded first, the commits that were loaded take the place of those that were read.
abbrev pub answered_over : Option History → History → History → History
answered_over None known beyond = known ++ beyond
answered_over (Some loaded) known beyond = loaded ++ beyond
