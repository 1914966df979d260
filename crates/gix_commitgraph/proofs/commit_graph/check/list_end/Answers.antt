use Rattle.std.proofs.Common.{◌∙◌, arith}
use Rattle.gix_commitgraph.proofs.Edges.{end-passed}
use Rattle.gix_commitgraph.proofs.commit_graph.check.list_end.Goals as goal

pub loop-k-preserved : goal.loop-k-preserved
loop-k-preserved c =
    end-passed c.args.bytes.now c.args.l c.loop-k.k c.args.l.edge_count c.word_at.result (omega arith) c.word_at.ensures.value (omega arith)
    ∙ c.loop-k.invariant
