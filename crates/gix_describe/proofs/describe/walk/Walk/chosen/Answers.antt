use Rattle.gix_describe.proofs.describe.walk.Walk.chosen.Goals as goal

pub loop-i-preserved : goal.loop-i-preserved
loop-i-preserved g c = record {
  inside = c.first_of-best.ensures.inside;
  first = λ d. c.first_of-best.ensures.first d (c.loop-i.invariant.first d);
}
