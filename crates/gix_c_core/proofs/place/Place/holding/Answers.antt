use Rattle.std.proofs.Common.{ap, ◌∙◌}
use Rattle.gix_c_core.specs.declared.handle.Handle.{Handle}
use Rattle.gix_c_core.proofs.place.Place.holding.Goals as goal

pub returns : goal.returns
returns c = (
  c.of.result.value,
  c.of-2.ensures,
  ap (λ (h : Handle). h.value) (c.of.ensures ∙ c.in_ok-handle.ensures.ok) ∙ c.new-2.ensures ∙ c.in_ok-history.ensures.ok,
)
