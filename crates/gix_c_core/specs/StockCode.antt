-- How a proof stores a stock.
use base.Stored.{Coded}
use Rattle.gix_c_core.specs.contracts.stock.Stock.{the_row}

-- The form in which a proof stores a stock, which is a table of names or a list of ids.
abbrev pub stock_coded : Coded the_row.Denot
stock_coded = the_row.coded
