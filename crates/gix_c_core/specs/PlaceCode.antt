-- How a proof stores a handle, or none.
use base.Stored.{Coded}
use Rattle.core.specs.contracts.option.Option as option
use Rattle.gix_c_core.specs.contracts.handle.Handle.{the_row}

-- The form in which a proof stores a handle, or none.
abbrev pub place_coded : Coded (option.the_row the_row).Denot
place_coded = (option.the_row the_row).coded
