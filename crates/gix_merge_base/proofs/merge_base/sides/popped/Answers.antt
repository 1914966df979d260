use Rattle.std.proofs.Common.{Ok, ◌≡◌, ◌<◌, ◌≤◌, ◌+◌, ◌*◌, ◌-◌, ◌^◌, length, arith, refl, sym, ap, subst, ◌∙◌, ℕ}
use Rattle.gix_revwalk.proofs.GraphAfters.{graph_same, graph_as}
use Rattle.gix_merge_base.specs.Front.{IsRight}
use Rattle.gix_merge_base.specs.PaintQueue.{marks_at, queued_ids, id_of, IsHeld}
use Rattle.gix_merge_base.specs.PaintSteps.{results_after}
use Rattle.gix_merge_base.specs.Sides.{HasPopped}
use Rattle.gix_merge_base.proofs.AfterCalls.{steps_more, steps_same, after_more, after_step}
use Rattle.gix_merge_base.proofs.QueueKeys.{kept-same}
use Rattle.gix_merge_base.proofs.PaintBegins.{walk_begins}
use Rattle.gix_merge_base.proofs.PaintPops.{next_walk}
use Rattle.gix_merge_base.proofs.PaintWalk.{pops_left, all_stale, pops_fit}
use Rattle.gix_merge_base.proofs.Painting.{Painting}
use Rattle.gix_merge_base.proofs.Residuals.{after_err}
use Rattle.gix_merge_base.specs.declared.merge_base.error.Error.TheVariants.{OutOfMemory}
use Rattle.gix_merge_base.proofs.Sides.{painting_begins, next_painting, has_popped}
use Rattle.gix_merge_base.proofs.merge_base.sides.popped.Goals as goal

smaller : (a b n p : ℕ) → b ≡ a → p + 1 ≤ (1 + n) + 3 * a → (1 + n + 3 * b) - (p + 1) < (1 + n + 3 * a) - p
smaller a b n p e k = omega arith

pub loop-number-init : goal.loop-number-init
loop-number-init g c =
    let h = g.S.Find.history c.args.graph.now.source in
    let new = c.start.new.graph in
    let q = queued_ids new c.start.new.front.queue in
    let walk = walk_begins h c.args.first c.args.others.now (IsHeld c.args.graph.now) (IsHeld new) (marks_at new) q c.in_default.ensures.begun c.start.ensures.holds in
    record {
      walk = rw c.new-results.ensures.items walk;
      painting = rw c.new-results.ensures.items (painting_begins h c.args.first c.args.others.now (IsHeld c.args.graph.now) (IsHeld new) (marks_at new) q _ c.new-seen.result walk);
      right = c.in_default.ensures.right;
      after = c.in_default.ensures.after;
    }

pub pop_open-requires : goal.pop_open-requires
pop_open-requires g c = subst (λ h. IsRight h c.loop-number.graph c.loop-number.walk.front) (sym c.loop-number.invariant.after.same_history) c.loop-number.invariant.right

pub note-requires : goal.note-requires
note-requires g c = c.in-Some.ensures.pops.inside

pub step-requires-clause-number : goal.step-requires-clause-number
step-requires-clause-number g c = c.in-Some.ensures.pops.inside

pub step-requires-clause-right : goal.step-requires-clause-right
step-requires-clause-right g c = subst (λ h. IsRight h c.pop_open.new.graph c.pop_open.new.self) (sym (ap g.S.Find.history c.pop_open.ensures.same.source)) c.in-Some.ensures.pops.right

pub loop-number-preserved : goal.loop-number-preserved
loop-number-preserved g c =
    let h = g.S.Find.history c.args.graph.now.source in
    let same = c.loop-number.invariant.after.same_history in
    let held = c.pop_open.ensures.same in
    let chain : g.S.Find.history c.pop_open.new.graph.source ≡ h = ap g.S.Find.history held.source ∙ same in
    let pops = rw same at c.in-Some.ensures.pops in
    let steps = rw chain at c.in_default-step.ensures.steps in
    let more = rw chain at c.step.ensures.meets.more in
    let results = c.loop-number.results.items in
    let id = id_of c.pop_open.new.graph c.in-Some.number in
    let next = next_painting h c.args.first c.args.others.now c.loop-number.graph c.pop_open.new.graph c.step.new.graph c.loop-number.walk.front c.pop_open.new.self c.step.new.self.front c.in-Some.number results c.loop-number.seen
    held pops c.loop-number.invariant.painting steps.steps in
    record {
      walk = rw steps.results (next_walk h c.args.first c.args.others.now (IsHeld c.args.graph.now) c.loop-number.graph c.pop_open.new.graph c.step.new.graph c.loop-number.walk.front c.pop_open.new.self c.in-Some.number
          held pops more results c.loop-number.pops c.loop-number.invariant.walk c.step.new.self.front steps.steps);
      painting = rw steps.results (subst (Painting h c.args.first c.args.others.now (marks_at c.step.new.graph) (queued_ids c.step.new.graph c.step.new.self.front.queue) (results_after (marks_at c.pop_open.new.graph) id results)) (sym c.in_ok-note.ensures) next);
      right = subst (λ z. IsRight z c.step.new.graph c.step.new.self.front) chain c.in_default-step.ensures.right;
      after = steps_more c.args.graph.now c.pop_open.new.graph c.step.new.graph _ (steps_same _ c.loop-number.graph _ c.loop-number.invariant.after held) c.in_default-step.ensures.meets.graph;
    }

pub overflow_add-pops : goal.overflow_add-pops
overflow_add-pops g c =
    let h = g.S.Find.history c.args.graph.now.source in
    let same = c.loop-number.invariant.after.same_history in
    let held = c.pop_open.ensures.same in
    let chain : g.S.Find.history c.pop_open.new.graph.source ≡ h = ap g.S.Find.history held.source ∙ same in
    let pops = rw same at c.in-Some.ensures.pops in
    let steps = rw chain at c.in_default-step.ensures.steps in
    let more = rw chain at c.step.ensures.meets.more in
    let after = next_walk h c.args.first c.args.others.now (IsHeld c.args.graph.now) c.loop-number.graph c.pop_open.new.graph c.step.new.graph c.loop-number.walk.front c.pop_open.new.self c.in-Some.number
    held pops more c.loop-number.results.items c.loop-number.pops c.loop-number.invariant.walk c.step.new.self.front steps.steps in
    let fit = pops_fit h c.args.first c.args.others.now (IsHeld c.args.graph.now) (IsHeld c.step.new.graph) c.step.new.graph (queued_ids c.step.new.graph c.step.new.self.front.queue) _ (c.loop-number.pops + 1) after c.in_default-step.ensures.room in
    let few : length c.args.others.now < 2 ^ 64 = omega arith in
    omega arith

pub loop-number-smaller : goal.loop-number-smaller
loop-number-smaller g c =
    let h = g.S.Find.history c.args.graph.now.source in
    let same = c.loop-number.invariant.after.same_history in
    let back : g.S.Find.history c.step.new.graph.source ≡ g.S.Find.history c.loop-number.graph.source = c.step.ensures.meets.graph.same_history ∙ ap g.S.Find.history c.pop_open.ensures.same.source in
    smaller _ _ _ _ (ap length back)
    (subst (λ z. c.loop-number.pops + 1 ≤ (1 + length c.args.others.now) + 3 * length z) (sym same) (pops_left h c.args.first c.args.others.now (IsHeld c.args.graph.now) (IsHeld c.loop-number.graph) (marks_at c.loop-number.graph) _ (queued_ids c.loop-number.graph c.loop-number.walk.front.queue) (queued_ids c.pop_open.new.graph c.pop_open.new.self.queue) c.loop-number.results.items c.loop-number.pops
    c.loop-number.invariant.walk c.in-Some.ensures.pops.queue))

pub returns-clause-after : goal.returns-clause-after
returns-clause-after g c =
    after_more _ c.loop-number.graph _ _ (after_step _ _ c.loop-number.invariant.after) (record {
      graph = graph_same c.loop-number.graph c.pop_open.new.graph _ refl c.pop_open.ensures.same.source (kept-same c.loop-number.graph c.pop_open.new.graph c.pop_open.ensures.same.ids);
      cause = tt;
    })

pub returns-in-Err-step-clause-after : goal.returns-in-Err-step-clause-after
returns-in-Err-step-clause-after g c =
    let held = c.pop_open.ensures.same in
    after_more _ c.pop_open.new.graph _ _ (after_step _ _ (steps_same _ c.loop-number.graph _ c.loop-number.invariant.after held)) (record {
      graph = graph_as _ _ _ _ (sym c.parent_refused.ensures.same) c.in-Err-step.ensures.meets.graph;
      cause = c.parent_refused.ensures.cause;
    })

pub returns-clause-popped : goal.returns-clause-popped
returns-clause-popped g c =
    let h = g.S.Find.history c.args.graph.now.source in
    let m = marks_at c.loop-number.graph in
    let q = queued_ids c.loop-number.graph c.loop-number.walk.front.queue in
    let last = c.in_default-pop_open.ensures in
    let stays = last.stays refl in
    subst (λ z. HasPopped h c.args.first c.args.others.now (marks_at z) c.loop-number.seen) (sym stays.0)
    (has_popped h c.args.first c.args.others.now m q c.loop-number.results.items c.loop-number.seen c.loop-number.invariant.painting (all_stale m q (last.none refl)))

pub returns-in_err-note-clause-after : goal.returns-in_err-note-clause-after
returns-in_err-note-clause-after g c = after_err {U = Unit {0}} _ _ _ OutOfMemory c.from_residual.ensures.1 (record {
  graph = graph_as _ _ (Ok tt) _ refl (after_step _ _ (steps_same _ c.loop-number.graph _ c.loop-number.invariant.after c.pop_open.ensures.same)).graph;
  cause = tt;
})
