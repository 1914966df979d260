use Rattle.std.proofs.Common.{ap, ◌∙◌}
use Rattle.gix_c_core.specs.declared.stock.Stock.{Stock}
use Rattle.gix_c_core.proofs.listed.place_of.Goals as goal

pub returns : goal.returns
returns c =
    let put = c.in_ok-place.ensures in
    (put.0, put.1, ap (λ (s : Stock). s.ids.items) put.2 ∙ c.in_ok-ids.ensures)
