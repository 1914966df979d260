-- A handle and a loose box own what a box at the same types owns.
use mir.Syntax.{impl, tnil, dnil}
use mathlib.Core.List.{[]}
use denote.RattleType.{RattleType}
use denote.Signature.{Slot, plain}
use Rattle.std_alloc.proofs.BoxSteps.Form.{Bx}
use Rattle.std_heap.specs.contracts.Global as Heap
use Rattle.std_heap.specs.contracts.GlobalAllocator.TheImpl.{ghosts, dict}
use Rattle.std_heap.proofs.Global.TheLaws as heap
use Rattle.gix_c_core.specs.contracts.history.History as Value
use Rattle.gix_c_core.proofs.history.History.TheLaws as value
use Rattle.gix_c_core.specs.contracts.loose.Loose as Loose
use Rattle.gix_c_core.specs.contracts.handle.Handle as Handle
use Rattle.gix_c_core.proofs.handle.Handle.TheLaws as handle
use Rattle.gix_c_core.specs.contracts.stock.Stock as Stock
use Rattle.gix_c_core.proofs.stock.Stock.TheLaws as stock
use Rattle.gix_c_core.specs.contracts.stock_handle.StockHandle as StockHandle
use Rattle.gix_c_core.proofs.stock_handle.StockHandle.TheLaws as stock_handle

abbrev pub E : Bx
E = record { row = Value.the_row; laws = value.the_row_laws; al = record { row = Heap.the_row; laws = heap.the_row_laws; g = ghosts; d = dict; drops = impl [] tnil dnil } }

abbrev pub FromLoose : Slot 0
FromLoose = plain (λ _. Loose.the_row Value.the_row Heap.the_row ghosts)

abbrev pub FromHandle : Slot 0
FromHandle = plain (λ _. Handle.the_row)

abbrev pub Lender : RattleType
Lender = Handle.the_row

-- the box of a handle, which a place stands for
abbrev pub EH : Bx
EH = record { row = Handle.the_row; laws = handle.the_row_laws; al = record { row = Heap.the_row; laws = heap.the_row_laws; g = ghosts; d = dict; drops = impl [] tnil dnil } }

abbrev pub FromOwned : Slot 0
FromOwned = plain (λ _. Loose.the_row Handle.the_row Heap.the_row ghosts)

-- the same for a stock
abbrev pub ES : Bx
ES = record { row = Stock.the_row; laws = stock.the_row_laws; al = record { row = Heap.the_row; laws = heap.the_row_laws; g = ghosts; d = dict; drops = impl [] tnil dnil } }

abbrev pub FromStockLoose : Slot 0
FromStockLoose = plain (λ _. Loose.the_row Stock.the_row Heap.the_row ghosts)

abbrev pub FromStock : Slot 0
FromStock = plain (λ _. StockHandle.the_row)

abbrev pub StockLender : RattleType
StockLender = StockHandle.the_row

abbrev pub ESH : Bx
ESH = record { row = StockHandle.the_row; laws = stock_handle.the_row_laws; al = record { row = Heap.the_row; laws = heap.the_row_laws; g = ghosts; d = dict; drops = impl [] tnil dnil } }

abbrev pub FromStockOwned : Slot 0
FromStockOwned = plain (λ _. Loose.the_row StockHandle.the_row Heap.the_row ghosts)
