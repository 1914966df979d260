-- How a proof stores the handle of a stock, or none.
use base.Stored.{Coded}
use Rattle.core.specs.contracts.option.Option as option
use Rattle.gix_c_core.specs.contracts.stock_handle.StockHandle.{the_row}

-- The form in which a proof stores the handle of a stock, or none.
abbrev pub stock_place_coded : Coded (option.the_row the_row).Denot
stock_place_coded = (option.the_row the_row).coded
