use Rattle.std.proofs.Common.{◌∙◌, sym, arith}
use Rattle.gix_commitgraph.specs.FileLevels.{is_lower}
use Rattle.gix_commitgraph.proofs.Edges.{none-passes, last-passes, one-passes}
use Rattle.gix_commitgraph.proofs.commit_graph.levels.are_lower.Goals as goal

pub returns-then-not-is_lower : goal.returns-then-not-is_lower
returns-then-not-is_lower c =
    sym (none-passes c.args.bytes.now c.args.l c.loop-k.k c.args.l.edge_count c.word_at-edge.result (omega arith) c.word_at-edge.ensures.value
    (is_lower c.args.bytes.now c.args.l c.args.limit) c.word_at-edge.ensures.bound (sym c.is_lower.ensures ∙ c.if-not-is_lower.true)) ∙ c.loop-k.invariant

pub returns-then-edge-ge-HIGH : goal.returns-then-edge-ge-HIGH
returns-then-edge-ge-HIGH c =
    sym (last-passes c.args.bytes.now c.args.l c.loop-k.k c.args.l.edge_count c.word_at-edge.result (omega arith) c.word_at-edge.ensures.value
    (is_lower c.args.bytes.now c.args.l c.args.limit) (omega arith) c.word_at-edge.ensures.bound (sym c.is_lower.ensures ∙ c.if-not-is_lower.false)) ∙ c.loop-k.invariant

pub loop-k-preserved : goal.loop-k-preserved
loop-k-preserved c =
    one-passes c.args.bytes.now c.args.l c.loop-k.k c.args.l.edge_count c.word_at-edge.result (omega arith) c.word_at-edge.ensures.value
    (is_lower c.args.bytes.now c.args.l c.args.limit) (omega arith) (sym c.is_lower.ensures ∙ c.if-not-is_lower.false) ∙ c.loop-k.invariant
