use Rattle.gix_c_core.proofs.Named.{given-step}
use Rattle.gix_c_core.proofs.describe.first_names.Goals as goal

pub loop-name-preserved : goal.loop-name-preserved
loop-name-preserved c = λ q. given-step c.args.names.now c.loop-name.name-index _ q _ _ c.loop-name-test.true (c.in_ok-add_name.ensures q) (c.loop-name.invariant q)
