use Rattle.std.proofs.Common.{w32, FitsSigned, rules}
use Rattle.std.proofs.lemmas.Int.{to_z-of_z}
use Rattle.gix_c_core.specs.Descriptions.{names_given}
use Rattle.gix_c.proofs.describe.gix_history_describe.Goals as goal

pub returns-clause-described : goal.returns-clause-described
returns-clause-described g c =
    let fits : FitsSigned w32 c.describe_by.result = search rules in
    rw (to_z-of_z w32 c.describe_by.result fits)
    (rw c.get_mut-history.ensures.value at (c.describe_by.ensures.described (names_given c.args.names.now) c.in-Ok.ensures))

pub returns-clause-walk : goal.returns-clause-walk
returns-clause-walk g c = λ codes.
    let fits : FitsSigned w32 c.describe_by.result = search rules in
    c.describe_by.ensures.walk (names_given c.args.names.now) c.in-Ok.ensures (rw (to_z-of_z w32 c.describe_by.result fits) at codes)
