-- What a caller in C owns of the handle of a stock.
use Rattle.std.specs.Prelude.{Option, Some, None}
use base.Fml.{Fml, ftrue}
use denote.RawPtr.{Ptr}
use Rattle.core.specs.Ptr.{if_non_null}
use Rattle.std.specs.Box.Ownership.{box_owns}
use Rattle.std.specs.Global.{Global}
use Rattle.std_heap.specs.contracts.GlobalAllocator.TheImpl.{ghosts}
use Rattle.gix_c_core.specs.declared.stock_handle.StockHandle.{StockHandle}
use Rattle.gix_c_core.specs.contracts.stock_handle.StockHandle.{the_row}

-- The handle h at p, with what it owns, and the right to free its block.
abbrev pub owns_stock : Global → Ptr → StockHandle → Fml
owns_stock alloc p h = box_owns (ghosts.dealloc_token alloc) the_row p h

-- The handle h at p, unless p is null.
abbrev pub owns_stock_unless_null : Global → Ptr → StockHandle → Fml
owns_stock_unless_null alloc p h = if_non_null p (owns_stock alloc p h)

-- The handle at p, if there is one.
abbrev pub owns_some_stock : Global → Ptr → Option StockHandle → Fml
owns_some_stock alloc p None = ftrue
owns_some_stock alloc p (Some h) = owns_stock alloc p h
