use Rattle.std.proofs.Common.{◌≡◌, length}
use Rattle.std.specs.Option.{option_map}
use Rattle.std.specs.List.{last_or}
use Rattle.gix_config.specs.Names.{name_of}
use Rattle.gix_config.specs.Values.{values_of, last_value, shown}
use Rattle.gix_config.proofs.values.last_value.Given as goal

abbrev pub invariant-settings : goal.invariant-settings
invariant-settings g l = last_or (option_map shown l.found) (values_of (name_of l.section (shown l.subsection) l.key) l.rest)
    ≡ last_value (name_of l.section (shown l.subsection) l.key) l.list

abbrev pub decreases-settings : goal.decreases-settings
decreases-settings g l = length l.rest
