use Rattle.gix_base.specs.Hash.{id_order}
use Rattle.gix_odb.proofs.Rising.{rising_part}
use Rattle.gix_odb.proofs.completions.first_ids.Goals as goal

pub returns-clause-rising : goal.returns-clause-rising
returns-clause-rising g c = rising_part id_order _ _ c.ids.all.keys c.ids.invariant.whole c.len.ensures.ordered
