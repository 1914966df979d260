use Rattle.gix_describe.proofs.Numbering.{number_within}
use Rattle.gix_describe.proofs.describe.walk.Walk.take_up.Goals as goal

pub mark-requires : goal.mark-requires
mark-requires g c = record { held = number_within c.args.graph.now c.args.met.now.id _ c.requires.numbered }
