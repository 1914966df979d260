use Rattle.std.proofs.Common.{rules, ◌∙◌}
use Rattle.gix_graph_rows.proofs.KnownBytes.{word_whole}
use Rattle.gix_graph_rows.proofs.layer.Layer.edge.Goals as goal

pub returns-clause-value : goal.returns-clause-value
returns-clause-value g c = λ k. c.from_be_bytes.ensures ∙ word_whole _ c.fill.new.buf _ (search rules) (search rules)
