use Rattle.std.proofs.Common.{◌≡◌, ◌++◌, length}
use Rattle.gix_config.specs.Names.{name_of}
use Rattle.gix_config.specs.Values.{values_of, shown, all_shown}
use Rattle.gix_config.proofs.values.all_values.Given as goal

abbrev pub invariant-settings : goal.invariant-settings
invariant-settings g l = all_shown l.values.items ++ values_of (name_of l.section (shown l.subsection) l.key) l.rest
    ≡ values_of (name_of l.section (shown l.subsection) l.key) l.list

abbrev pub decreases-settings : goal.decreases-settings
decreases-settings g l = length l.rest
