use Rattle.std.proofs.Common.{Ok, refl, ◌∙◌}
use Rattle.gix_revwalk.proofs.GraphAfters.{graph_as}
use Rattle.gix_merge_base.proofs.AfterCalls.{after_more, after_ok}
use Rattle.gix_merge_base.proofs.Residuals.{after_err}
use Rattle.gix_merge_base.specs.declared.merge_base.error.Error.TheVariants.{OutOfMemory}
use Rattle.gix_range.specs.Lines.{queued}
use Rattle.gix_range.proofs.Lines.{none_queued, met_more, leads_follow, leads_popped, below_last}
use Rattle.gix_range.proofs.below.commit_below.Goals as goal

pub loop-step-preserved : goal.loop-step-preserved
loop-step-preserved g c =
    let h = g.S.Find.history c.args.graph.now.source in
    let old = c.loop-step.invariant in
    let met = c.loop-step.lines.met in
    let left = queued c.pop.new.self in
    let new = c.extend.new.self in
    let parent = c.in-Some-2.parent in
    let did = rw (c.in_ok-parent.ensures.after.graph.same_history ∙ old.after.graph.same_history) at c.in_ok-extend.ensures in
    let edge = rw old.after.graph.same_history at (rw c.in-Some-2.is at c.in_ok-parent.ensures.edge) in
    record {
      begun = λ x k. met_more h met left new.met (queued new.ends) parent did x (old.begun x k);
      leads = leads_follow h met left new.met (queued new.ends) parent did c.in-Some.id edge (leads_popped h met c.loop-step.lines.ends c.pop.new.self c.in-Some.field-0-0 c.in-Some.id c.in-Some.ensures.taken old.leads);
      after = after_more _ _ _ _ old.after (after_ok _ _ _ c.in_ok-parent.ensures.after);
    }

pub returns-then-is_empty-clause-below : goal.returns-then-is_empty-clause-below
returns-then-is_empty-clause-below g c =
    let h = g.S.Find.history c.args.graph.now.source in
    let old = c.loop-step.invariant in
    let met = c.loop-step.lines.met in
    let edge = rw old.after.graph.same_history at (rw c.in-Some-2.is at c.in_ok-parent.ensures.edge) in
    below_last h c.args.ids.now met (queued c.pop.new.self) c.in-Some.id c.in-Some-2.parent (none_queued c.pop.new.self c.is_empty.result c.is_empty.ensures c.if-is_empty.true) edge old.begun
    (leads_popped h met c.loop-step.lines.ends c.pop.new.self c.in-Some.field-0-0 c.in-Some.id c.in-Some.ensures.taken old.leads)

pub returns-in_err-extend-clause-after : goal.returns-in_err-extend-clause-after
returns-in_err-extend-clause-after g c = after_err {U = Unit {0}} _ _ _ OutOfMemory c.from_residual-in_err-extend.ensures.1 (record {
  graph = graph_as _ _ (Ok tt) _ refl (after_more _ _ _ _ c.loop-step.invariant.after (after_ok _ _ _ c.in_ok-parent.ensures.after)).graph;
  cause = tt;
})
