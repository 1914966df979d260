use Rattle.std.proofs.Common.{◌∙◌, arith}
use Rattle.gix_commitgraph.proofs.Rows.{row-passed}
use Rattle.gix_graph_rows.proofs.front.find_entry.Goals as goal

pub loop-i-preserved : goal.loop-i-preserved
loop-i-preserved c = row-passed c.args.bytes.now c.args.tag c.loop-i.i c.args.entries (omega arith) (λ e. c.if-word_at-tag.false (c.word_at.ensures.value ∙ e)) ∙ c.loop-i.invariant
