use Rattle.std.proofs.Common.{rules}
use Rattle.gix_graph_rows.proofs.KnownBytes.{id_whole}
use Rattle.gix_graph_rows.proofs.layer.Layer.id.Goals as goal

pub returns-clause-value : goal.returns-clause-value
returns-clause-value g c = λ k h. id_whole _ c.fill.new.buf _ (search rules) (search rules)
