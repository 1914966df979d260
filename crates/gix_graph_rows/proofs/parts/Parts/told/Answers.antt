use Rattle.std.proofs.Common.{rules, arith}
use Rattle.gix_graph_rows.proofs.KnownBytes.{id_among}
use Rattle.gix_graph_rows.proofs.parts.Parts.told.Goals as goal

pub returns-in-At-clause-value : goal.returns-in-At-clause-value
returns-in-At-clause-value g c = λ k. id_among _ _ c.around-low.result.low c.in-At.k c.saturating_add.result c.read_into.new.bytes.items c.args.id (record { part = search rules; within = search rules }) (search rules) (λ h. omega (arith, h))
