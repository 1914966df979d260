-- The settings of a repository.
use Rattle.std.specs.Prelude.{List}
use Rattle.gix_config.specs.declared.text.Entry.{Entry}
use Rattle.gix_discover.specs.declared.settings.Settings.{Settings}

-- The settings that were read, in git's order.
abbrev pub settings_of : {A : Type 0} → Settings A → List (Entry A)
settings_of s = s.entries.items
