use Rattle.std.proofs.Common.{sym, ap}
use Rattle.gix_describe.specs.Handing.{bits}
use Rattle.gix_describe.proofs.Numbering.{number_within, value_held}
use Rattle.gix_describe.proofs.describe.handing.marks_of.Goals as goal

pub value-requires : goal.value-requires
value-requires g c = number_within c.args.graph.now c.args.met.now.id _ c.requires.numbered

pub returns : goal.returns
returns g c = sym (ap bits (value_held c.args.graph.now c.args.met.now.id _ _ c.requires.numbered c.value.ensures.value))
