use Rattle.std.proofs.Common.{below_more, ◌∙◌, sym}
use Rattle.gix_commitgraph.proofs.commit_graph.levels.fall.Goals as goal

pub loop-i-preserved : goal.loop-i-preserved
loop-i-preserved c = record {
  each = below_more _ _ c.loop-i.invariant.each (sym c.is_above.ensures.value ∙ c.if-not-is_above.false);
  bounds = below_more _ _ c.loop-i.invariant.bounds c.is_above.ensures.bound;
}
