use Rattle.std.proofs.Common.{rules, arith}
use Rattle.gix_graph_rows.proofs.KnownBytes.{id_among}
use Rattle.gix_graph_rows.proofs.parts.Part.position.Goals as goal

pub returns : goal.returns
returns g c = λ s t small ids. id_among s t c.args.self.now.low c.in_ok-k.k c.saturating_add.result c.args.self.now.ids.items c.args.id ids (search rules) (λ h. omega (arith, h, small))
