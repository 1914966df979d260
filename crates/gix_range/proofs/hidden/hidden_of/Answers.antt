use Rattle.gix_range.specs.Lines.{IsBelow}
use Rattle.gix_range.proofs.Hiding.{if_ok, above_hides}
use Rattle.gix_range.proofs.hidden.hidden_of.Goals as goal

pub returns-in-Some-clause-hides : goal.returns-in-Some-clause-hides
returns-in-Some-clause-hides g c =
    let h = g.S.Find.history c.args.graph.now.source in
    let below : IsBelow h c.args.candidates.now c.in-Some.below = rw c.in-Some.is at c.in_ok-below-in_default.ensures.below in
    if_ok c.above.result _ _ (λ hidden covers. above_hides h c.args.candidates.now c.args.exclude.now hidden c.in-Some.below below covers)
    (rw c.in_ok-below-in_default.ensures.after.graph.same_history at c.above.ensures.covers)
