use Rattle.std.proofs.Common.{◌≡◌, ◌<◌, ◌≤◌, ◌+◌, ◌*◌, ◌-◌, ◌^◌, length, arith, refl, sym, ap, subst, ◌∙◌, ℕ}
use Rattle.gix_revwalk.proofs.GraphAfters.{graph_same, graph_as}
use Rattle.gix_merge_base.specs.Front.{IsRight, ReducingOn}
use Rattle.gix_merge_base.specs.PaintQueue.{marks_at, queued_ids, IsHeld}
use Rattle.gix_merge_base.proofs.AfterCalls.{steps_more, steps_same, after_more, after_step}
use Rattle.gix_merge_base.proofs.QueueKeys.{held-same, kept-same}
use Rattle.gix_merge_base.proofs.PaintBegins.{walk_begins}
use Rattle.gix_merge_base.proofs.PaintPops.{next_walk, next_takes, next_meets}
use Rattle.gix_merge_base.proofs.PaintWalk.{pops_left, pops_bound, all_stale, pops_fit}
use Rattle.gix_merge_base.proofs.PaintingEnds.{best_is_result, pops_enough}
use Rattle.gix_merge_base.proofs.Reduction.{reduce_painted}
use Rattle.gix_merge_base.proofs.merge_base.painting.paint_with.Goals as goal

smaller : (a b n p : ℕ) → b ≡ a → p + 1 ≤ (1 + n) + 3 * a → (1 + n + 3 * b) - (p + 1) < (1 + n + 3 * a) - p
smaller a b n p e k = omega arith

pub start-requires-clause-empty : goal.start-requires-clause-empty
start-requires-clause-empty g c = c.requires.empty

pub start-requires-clause-none : goal.start-requires-clause-none
start-requires-clause-none g c = c.requires.none

pub loop-number-init : goal.loop-number-init
loop-number-init g c = record {
  walk = rw c.new-results.ensures.items (walk_begins _ c.args.first c.args.others.now (IsHeld c.args.graph.now) (IsHeld c.start.new.graph) (marks_at c.start.new.graph) (queued_ids c.start.new.graph c.start.new.front.queue) c.in_default.ensures.begun c.start.ensures.holds);
  right = c.in_default.ensures.right;
  after = c.in_default.ensures.after;
}

pub pop_open-requires : goal.pop_open-requires
pop_open-requires g c = subst (λ h. IsRight h c.loop-number.graph c.loop-number.walk.front) (sym c.loop-number.invariant.after.same_history) c.loop-number.invariant.right

pub step-requires-clause-right : goal.step-requires-clause-right
step-requires-clause-right g c = subst (λ h. IsRight h c.pop_open.new.graph c.pop_open.new.self) (sym (ap g.S.Find.history c.pop_open.ensures.same.source)) c.in-Some.ensures.pops.right

pub loop-number-preserved : goal.loop-number-preserved
loop-number-preserved g c =
    let h = g.S.Find.history c.args.graph.now.source in
    let same = c.loop-number.invariant.after.same_history in
    let held = c.pop_open.ensures.same in
    let chain : g.S.Find.history c.pop_open.new.graph.source ≡ h = ap g.S.Find.history held.source ∙ same in
    let pops = rw same at c.in-Some.ensures.pops in
    let steps = rw chain at c.in_default-step.ensures.steps in
    let more = rw chain at c.step.ensures.meets.more in
    record {
      walk = rw steps.results (next_walk h c.args.first c.args.others.now (IsHeld c.args.graph.now) c.loop-number.graph c.pop_open.new.graph c.step.new.graph c.loop-number.walk.front c.pop_open.new.self c.in-Some.number
          held pops more c.loop-number.results.items c.loop-number.pops c.loop-number.invariant.walk c.step.new.self.front steps.steps);
      right = subst (λ z. IsRight z c.step.new.graph c.step.new.self.front) chain c.in_default-step.ensures.right;
      after = steps_more c.args.graph.now c.pop_open.new.graph c.step.new.graph _ (steps_same _ c.loop-number.graph _ c.loop-number.invariant.after held) c.in_default-step.ensures.meets.graph;
    }

pub overflow_add-pops : goal.overflow_add-pops
overflow_add-pops g c =
    let h = g.S.Find.history c.args.graph.now.source in
    let same = c.loop-number.invariant.after.same_history in
    let held = c.pop_open.ensures.same in
    let chain : g.S.Find.history c.pop_open.new.graph.source ≡ h = ap g.S.Find.history held.source ∙ same in
    let pops = rw same at c.in-Some.ensures.pops in
    let steps = rw chain at c.in_default-step.ensures.steps in
    let more = rw chain at c.step.ensures.meets.more in
    let after = next_walk h c.args.first c.args.others.now (IsHeld c.args.graph.now) c.loop-number.graph c.pop_open.new.graph c.step.new.graph c.loop-number.walk.front c.pop_open.new.self c.in-Some.number
    held pops more c.loop-number.results.items c.loop-number.pops c.loop-number.invariant.walk c.step.new.self.front steps.steps in
    let fit = pops_fit h c.args.first c.args.others.now (IsHeld c.args.graph.now) (IsHeld c.step.new.graph) c.step.new.graph (queued_ids c.step.new.graph c.step.new.self.front.queue) _ (c.loop-number.pops + 1) after c.in_default-step.ensures.room in
    let few : length c.args.others.now < 2 ^ 64 = omega arith in
    omega arith

pub loop-number-smaller : goal.loop-number-smaller
loop-number-smaller g c =
    let h = g.S.Find.history c.args.graph.now.source in
    let same = c.loop-number.invariant.after.same_history in
    let back : g.S.Find.history c.step.new.graph.source ≡ g.S.Find.history c.loop-number.graph.source = c.step.ensures.meets.graph.same_history ∙ ap g.S.Find.history c.pop_open.ensures.same.source in
    smaller _ _ _ _ (ap length back)
    (subst (λ z. c.loop-number.pops + 1 ≤ (1 + length c.args.others.now) + 3 * length z) (sym same) (pops_left h c.args.first c.args.others.now (IsHeld c.args.graph.now) (IsHeld c.loop-number.graph) (marks_at c.loop-number.graph) _ (queued_ids c.loop-number.graph c.loop-number.walk.front.queue) (queued_ids c.pop_open.new.graph c.pop_open.new.self.queue) c.loop-number.results.items c.loop-number.pops
    c.loop-number.invariant.walk c.in-Some.ensures.pops.queue))

pub returns-clause-painted : goal.returns-clause-painted
returns-clause-painted g c =
    let h = g.S.Find.history c.args.graph.now.source in
    let m = marks_at c.loop-number.graph in
    let q = queued_ids c.loop-number.graph c.loop-number.walk.front.queue in
    let results = c.loop-number.results.items in
    let walk = c.loop-number.invariant.walk in
    let stale = all_stale m q (c.in_default-pop_open.ensures.none refl) in
    record {
      common = walk.painting.common;
      best = λ acyclic. best_is_result h c.args.first c.args.others.now m q results walk.popped acyclic walk.painting stale;
      once = walk.painting.once;
      most = λ n size.
          let b = pops_bound h c.args.first c.args.others.now (IsHeld c.args.graph.now) (IsHeld c.loop-number.graph) m q results c.loop-number.pops walk size.0 (λ p has. (size.1.1 p).1 has) in
          let e = size.2 in
          omega arith;
      least = λ acyclic xs distinct each.
          let k : length xs ≤ length walk.popped = pops_enough h c.args.first c.args.others.now m q results walk.popped acyclic walk.painting stale xs distinct each in
          let e : c.loop-number.pops ≡ length walk.popped = walk.counts in
          omega arith;
      strict = walk.best;
      falling = λ none. (walk.ordered none).falling;
    }

pub returns-clause-reducing : goal.returns-clause-reducing
returns-clause-reducing g c =
    let h = g.S.Find.history c.args.graph.now.source in
    let results = c.loop-number.results.items in
    let m = marks_at c.loop-number.graph in
    let q = queued_ids c.loop-number.graph c.loop-number.walk.front.queue in
    let walk = c.loop-number.invariant.walk in
    let last = c.in_default-pop_open.ensures in
    let stays = last.stays refl in
    subst (λ z. ReducingOn h results z c.pop_open.new.self) (sym stays.0) (subst (ReducingOn h results c.loop-number.graph) (sym stays.1)
    (reduce_painted h c.args.first c.args.others.now m q results walk.popped walk.painting (all_stale m q (last.none refl))))

pub returns-clause-right : goal.returns-clause-right
returns-clause-right g c =
    let h = g.S.Find.history c.args.graph.now.source in
    let stays = c.in_default-pop_open.ensures.stays refl in
    subst (λ z. IsRight h z c.pop_open.new.self) (sym stays.0) (subst (IsRight h c.loop-number.graph) (sym stays.1) c.loop-number.invariant.right)

pub returns-clause-taken : goal.returns-clause-taken
returns-clause-taken g c falls q k = c.loop-number.invariant.walk.taken falls q (sym (held-same c.loop-number.graph c.pop_open.new.graph c.pop_open.ensures.same.ids q) ∙ k)

pub returns-clause-reached : goal.returns-clause-reached
returns-clause-reached g c q k = c.loop-number.invariant.walk.met q (sym (held-same c.loop-number.graph c.pop_open.new.graph c.pop_open.ensures.same.ids q) ∙ k)

pub returns-clause-after : goal.returns-clause-after
returns-clause-after g c =
    after_more _ c.loop-number.graph _ _ (after_step _ _ c.loop-number.invariant.after) (record {
      graph = graph_same c.loop-number.graph c.pop_open.new.graph _ refl c.pop_open.ensures.same.source (kept-same c.loop-number.graph c.pop_open.new.graph c.pop_open.ensures.same.ids);
      cause = tt;
    })

pub returns-in-Err-step-clause-after : goal.returns-in-Err-step-clause-after
returns-in-Err-step-clause-after g c =
    let held = c.pop_open.ensures.same in
    after_more _ c.pop_open.new.graph _ _ (after_step _ _ (steps_same _ c.loop-number.graph _ c.loop-number.invariant.after held)) (record {
      graph = graph_as _ _ _ _ (sym c.parent_refused.ensures.same) c.in-Err-step.ensures.meets.graph;
      cause = c.parent_refused.ensures.cause;
    })

pub returns-in-Err-step-clause-taken : goal.returns-in-Err-step-clause-taken
returns-in-Err-step-clause-taken g c =
    let h = g.S.Find.history c.args.graph.now.source in
    let same = c.loop-number.invariant.after.same_history in
    let held = c.pop_open.ensures.same in
    let chain : g.S.Find.history c.pop_open.new.graph.source ≡ h = ap g.S.Find.history held.source ∙ same in
    let pops = rw same at c.in-Some.ensures.pops in
    let more = rw chain at c.step.ensures.meets.more in
    next_takes h c.args.first c.args.others.now (IsHeld c.args.graph.now) c.loop-number.graph c.pop_open.new.graph c.step.new.graph c.loop-number.walk.front c.pop_open.new.self c.in-Some.number
    held pops more c.loop-number.results.items c.loop-number.pops c.loop-number.invariant.walk

pub returns-in-Err-step-clause-reached : goal.returns-in-Err-step-clause-reached
returns-in-Err-step-clause-reached g c =
    let h = g.S.Find.history c.args.graph.now.source in
    let same = c.loop-number.invariant.after.same_history in
    let held = c.pop_open.ensures.same in
    let chain : g.S.Find.history c.pop_open.new.graph.source ≡ h = ap g.S.Find.history held.source ∙ same in
    let pops = rw same at c.in-Some.ensures.pops in
    let more = rw chain at c.step.ensures.meets.more in
    next_meets h c.args.first c.args.others.now (IsHeld c.args.graph.now) c.loop-number.graph c.pop_open.new.graph c.step.new.graph c.loop-number.walk.front c.pop_open.new.self c.in-Some.number
    held pops more c.loop-number.results.items c.loop-number.pops c.loop-number.invariant.walk
