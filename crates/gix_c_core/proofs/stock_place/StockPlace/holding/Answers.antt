use Rattle.std.proofs.Common.{ap, ◌∙◌}
use Rattle.gix_c_core.specs.declared.stock_handle.StockHandle.{StockHandle}
use Rattle.gix_c_core.proofs.stock_place.StockPlace.holding.Goals as goal

pub returns : goal.returns
returns c = (
  c.of.result.value,
  c.of-2.ensures,
  ap (λ (h : StockHandle). h.value) (c.of.ensures ∙ c.in_ok-handle.ensures.ok) ∙ c.new-2.ensures ∙ c.in_ok-stock.ensures.ok,
)
