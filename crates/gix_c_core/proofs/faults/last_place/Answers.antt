use Rattle.gix_c_core.proofs.Parts.{found}
use Rattle.gix_c_core.proofs.faults.last_place.Goals as goal

pub unreachable-requires : goal.unreachable-requires
unreachable-requires c = found c.args.text.now c.args.part.now c.requires c.in-None.ensures
