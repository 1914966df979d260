use Rattle.std.proofs.Common.{◌<◌, ◌≤◌, ◌∙◌, length, arith, sym, refl, Ok}
use Rattle.std.proofs.lemmas.List.{take_all}
use Rattle.gix_revwalk.proofs.GraphAfters.{graph_as}
use Rattle.gix_merge_base.proofs.AfterCalls.{after_none, after_more, after_ok}
use Rattle.gix_revwalk.proofs.Members.{one_of-at}
use Rattle.gix_merge_base.proofs.Loads.{loads_same, loads_then, loads_one}
use Rattle.gix_merge_base.proofs.Sorting.{turned_skip, turned_push}
use Rattle.gix_merge_base.proofs.merge_base.order.candidates_of.Goals as goal

pub loop-id-preserved-in_default : goal.loop-id-preserved-in_default
loop-id-preserved-in_default g c =
    let test : c.loop-id.id-index < length c.args.ids.now = omega arith in
    let next = rw c.loop-id.invariant.after.graph.same_history at c.in_ok-candidate.ensures.candidate in
    record {
      candidates = turned_skip _ _ _ _ _ test c.loop-id.invariant.candidates (sym c.in_default.is ∙ next);
      loads = loads_then c.loop-id.invariant.loads (loads_one _ _ _ (one_of-at c.args.ids.now c.loop-id.id-index _ test) (rw c.loop-id.invariant.after.graph.same_history at c.candidate_of.ensures.holds));
      after = after_more _ _ _ _ c.loop-id.invariant.after (after_ok _ _ _ c.in_ok-candidate.ensures.after);
    }

pub loop-id-preserved : goal.loop-id-preserved
loop-id-preserved g c =
    let test : c.loop-id.id-index < length c.args.ids.now = omega arith in
    let next = rw c.loop-id.invariant.after.graph.same_history at c.in_ok-candidate.ensures.candidate in
    record {
      candidates = c.in-Ok.ensures.items ∙ turned_push _ _ _ _ _ _ test c.loop-id.invariant.candidates (sym c.in-Some.is ∙ next);
      loads = loads_then c.loop-id.invariant.loads (loads_one _ _ _ (one_of-at c.args.ids.now c.loop-id.id-index _ test) (rw c.loop-id.invariant.after.graph.same_history at c.candidate_of.ensures.holds));
      after = after_more _ _ _ _ c.loop-id.invariant.after (after_ok _ _ _ c.in_ok-candidate.ensures.after);
    }

pub loop-id-init : goal.loop-id-init
loop-id-init g c = record { candidates = c.new-candidates.ensures.items; loads = loads_same _ _ refl; after = after_none _ }

pub returns-in-Err-clause-after : goal.returns-in-Err-clause-after
returns-in-Err-clause-after g c = record {
  graph = graph_as _ _ (Ok tt) _ refl (after_more _ _ _ _ c.loop-id.invariant.after (after_ok _ _ _ c.in_ok-candidate.ensures.after)).graph;
  cause = tt;
}

pub returns-clause-candidates : goal.returns-clause-candidates
returns-clause-candidates g c =
    let done : length c.args.ids.now ≤ c.loop-id.id-index = omega arith in
    rw (take_all c.loop-id.id-index c.args.ids.now done) at c.loop-id.invariant.candidates

pub returns-clause-after : goal.returns-clause-after
returns-clause-after g c = record { graph = graph_as _ _ (Ok tt) _ refl c.loop-id.invariant.after.graph; cause = tt }

pub returns-in_err-candidate-clause-loads : goal.returns-in_err-candidate-clause-loads
returns-in_err-candidate-clause-loads g c =
    let test : c.loop-id.id-index < length c.args.ids.now = omega arith in
    loads_then c.loop-id.invariant.loads (loads_one _ _ _ (one_of-at c.args.ids.now c.loop-id.id-index _ test) (rw c.loop-id.invariant.after.graph.same_history at c.candidate_of.ensures.holds))

pub returns-in-Err-clause-loads : goal.returns-in-Err-clause-loads
returns-in-Err-clause-loads g c =
    let test : c.loop-id.id-index < length c.args.ids.now = omega arith in
    loads_then c.loop-id.invariant.loads (loads_one _ _ _ (one_of-at c.args.ids.now c.loop-id.id-index _ test) (rw c.loop-id.invariant.after.graph.same_history at c.candidate_of.ensures.holds))

pub returns-clause-loads : goal.returns-clause-loads
returns-clause-loads g c = c.loop-id.invariant.loads
