use Rattle.std.proofs.Common.{◌≡◌, ◌<◌, ◌≤◌, ◌∷◌, [], length, get_or, arith, refl, Ok}
use Rattle.std.proofs.lemmas.List.{take_all}
use Rattle.gix_base.specs.declared.hash.ObjectId.{ObjectId}
use Rattle.gix_revwalk.proofs.GraphAfters.{graph_as}
use Rattle.gix_revwalk.proofs.Members.{one_of-head, one_of-tail, one_of-at}
use Rattle.gix_merge_base.proofs.AfterCalls.{after_none, after_more, after_ok}
use Rattle.gix_merge_base.proofs.Heads.{stand_first, stand_next, stand_acyclic, stand_last}
use Rattle.gix_merge_base.proofs.Sorting.{few_in_order}
use Rattle.gix_merge_base.proofs.Loads.{loads_same, loads_then, loads_within, from_within, from_single, from_cons}
use Rattle.gix_merge_base.proofs.merge_base.heads.steps.Goals as goal

pub loop-other-init : goal.loop-other-init
loop-other-init g c =
    let items : c.in_ok-left.left.items ≡ c.args.first ∷ [] = c.in_ok-left.ensures.items_if_clones_equal (λ x y same. same) in
    record { stand = λ acyclic has. rw items (stand_first _ c.args.first (has c.args.first (one_of-head c.args.first c.args.others.now))); order = rw items (few_in_order (g.S.Find.history c.args.graph.now.source) (c.args.first ∷ []) (omega arith)); within = rw items (from_single _ c.args.first (c.args.first ∷ c.args.others.now) (one_of-head c.args.first c.args.others.now)); loads = loads_same _ _ refl; after = after_none _ }

pub loop-other-preserved : goal.loop-other-preserved
loop-other-preserved g c =
    let test : c.loop-other.other-index < length c.args.others.now = omega arith in
    let next = c.in_ok-left-2.ensures in
    let step = rw (c.loop-other.invariant.after.graph.same_history, c.deref.ensures.value) at next.step in
    let ids = c.args.first ∷ c.args.others.now in
    let other : ObjectId = get_or c.args.others.now c.loop-other.other-index (record { 0 = [] }) in
    let here = one_of-tail c.args.first c.args.others.now other (one_of-at c.args.others.now c.loop-other.other-index (record { 0 = [] }) test) in
    let below = rw c.loop-other.invariant.after.graph.same_history at next.below in
    let loads = rw (c.loop-other.invariant.after.graph.same_history, c.deref.ensures.value) at c.step.ensures.loads in
    record {
      stand = λ acyclic has.
          let stand = c.loop-other.invariant.stand acyclic has in
          stand_next _ _ _ _ _ _ _ test stand
          (step (stand_acyclic _ _ _ _ _ _ test stand acyclic) (has _ (one_of-tail c.args.first c.args.others.now _ (one_of-at c.args.others.now c.loop-other.other-index _ test))));
      order = rw c.loop-other.invariant.after.graph.same_history at next.order;
      within = λ x k. from_within _ ids (other ∷ []) (from_single _ other ids here) x (below x k);
      loads = loads_then c.loop-other.invariant.loads (loads_within (other ∷ c.loop-other.left.items) (from_cons _ other ids c.loop-other.left.items here c.loop-other.invariant.within) loads);
      after = after_more _ _ _ _ c.loop-other.invariant.after (after_ok _ _ _ next.after);
    }

pub returns-clause-bases : goal.returns-clause-bases
returns-clause-bases g c acyclic has =
    let done : length c.args.others.now ≤ c.loop-other.other-index = omega arith in
    let stand = rw (take_all c.loop-other.other-index c.args.others.now done) at c.loop-other.invariant.stand in
    stand_last _ _ _ _ acyclic (stand acyclic has)

pub returns-clause-order : goal.returns-clause-order
returns-clause-order g c = c.loop-other.invariant.order

pub returns-clause-after : goal.returns-clause-after
returns-clause-after g c = record { graph = graph_as _ _ (Ok tt) _ refl c.loop-other.invariant.after.graph; cause = tt }

pub returns-clause-loads : goal.returns-clause-loads
returns-clause-loads g c = c.loop-other.invariant.loads

pub returns-in_err-left-2-clause-loads : goal.returns-in_err-left-2-clause-loads
returns-in_err-left-2-clause-loads g c =
    let test : c.loop-other.other-index < length c.args.others.now = omega arith in
    let ids = c.args.first ∷ c.args.others.now in
    let other : ObjectId = get_or c.args.others.now c.loop-other.other-index (record { 0 = [] }) in
    let here = one_of-tail c.args.first c.args.others.now other (one_of-at c.args.others.now c.loop-other.other-index (record { 0 = [] }) test) in
    let loads = rw (c.loop-other.invariant.after.graph.same_history, c.deref.ensures.value) at c.step.ensures.loads in
    loads_then c.loop-other.invariant.loads (loads_within (other ∷ c.loop-other.left.items) (from_cons _ other ids c.loop-other.left.items here c.loop-other.invariant.within) loads)
