use Rattle.std.proofs.Common.{◌∙◌}
use Rattle.gix_commitgraph.proofs.Hashed.{hash-tells}
use Rattle.gix_commitgraph.proofs.commit_graph.trailer.hash_is_right.Goals as goal

pub returns : goal.returns
returns c = hash-tells c.args.bytes.now c.as_slice.result.now c.eq.result c.eq.ensures (c.as_slice.ensures ∙ c.digest.ensures)
