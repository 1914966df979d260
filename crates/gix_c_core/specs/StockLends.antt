-- A handle after its stock was lent.
use Rattle.std.specs.Borrow.{Lends, MutBor, Fml}
use Rattle.gix_c_core.specs.declared.stock_handle.StockHandle.{StockHandle}
use Rattle.gix_c_core.specs.declared.stock.Stock.{Stock}
use Rattle.gix_c_core.specs.contracts.stock.Stock.{the_row as stock_row}
use Rattle.gix_c_core.specs.contracts.stock_handle.StockHandle.{the_row}

-- The handle h with the stock w behind its pointer.
abbrev pub with_stock : StockHandle → Stock → StockHandle
with_stock h w = record h { value = w }

-- The handle h ends with the last stock behind r.
abbrev pub lends_stock : MutBor StockHandle → MutBor Stock → Fml
lends_stock h r = Lends the_row stock_row h r (with_stock h.now)
