use Rattle.std.proofs.Common.{sym, subst}
use Rattle.gix_c_core.specs.Descriptions.{AreNames, names_given}
use Rattle.gix_c_core.specs.declared.stock.Stock.{Stock}
use Rattle.gix_c.proofs.describe.gix_names_new.Goals as goal

pub returns : goal.returns
returns c =
    let put = c.in-Ok-holding.ensures in
    (put.0, put.1, subst (λ (s : Stock). AreNames s.names.entries (names_given c.args.names.now)) (sym put.2) c.in-Ok.ensures)
