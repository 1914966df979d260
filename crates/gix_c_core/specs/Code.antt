-- How a proof stores a history.
use base.Stored.{Coded}
use Rattle.gix_c_core.specs.contracts.history.History.{the_row}

-- The form in which a proof stores a history.
abbrev pub history_coded : Coded the_row.Denot
history_coded = the_row.coded
