use Rattle.std.proofs.Common.{◌≡◌, ◌<◌, ◌≤◌, ◌+◌, length, arith, rules, refl, sym, ap, subst, [], IsTrue, is_some}
use Rattle.std.specs.Option.{unwrap_or}
use Rattle.std.specs.Map.{lookup}
use Rattle.std.proofs.lemmas.List.{take_all}
use Rattle.gix_revwalk.specs.History.{same_id}
use Rattle.gix_revwalk.proofs.GraphAfters.{graph_as}
use Rattle.gix_merge_base.specs.Front.{IsRight}
use Rattle.gix_merge_base.specs.PaintQueue.{marks_at, queued_ids, no_mark, IsHeld}
use Rattle.gix_merge_base.specs.Marks.{marks_of}
use Rattle.gix_merge_base.proofs.AfterCalls.{steps_begin, steps_more}
use Rattle.gix_merge_base.proofs.Fronts.{right_first}
use Rattle.gix_merge_base.proofs.PaintBegins.{begun_first, begun_taken, holds_first, holds_another, holds_all}
use Rattle.gix_merge_base.proofs.merge_base.painting.start.Goals as goal

pub begin-requires : goal.begin-requires
begin-requires g c = right_first (g.S.Find.history c.begin_walk.new.graph.source) c.begin_walk.new.graph c.args.front.now c.requires.empty c.requires.none c.begin_walk.ensures.none

pub begin-requires-in-loop-other : goal.begin-requires-in-loop-other
begin-requires-in-loop-other g c = subst (λ h. IsRight h c.loop-other.graph c.loop-other.front) (sym c.loop-other.invariant.after.same_history) c.loop-other.invariant.right

pub loop-other-init : goal.loop-other-init
loop-other-init g c =
    let same = ap g.S.Find.history c.begin_walk.ensures.source in
    let mid = c.begin_walk.new.graph in
    let new = c.begin.new.graph in
    let empty : queued_ids mid c.args.front.now.queue ≡ [] = ap (queued_ids mid) c.requires.empty in
    record {
      begun = begun_first _ c.args.first _ (marks_at mid) (marks_at new) (queued_ids mid c.args.front.now.queue) (queued_ids new c.begin.new.front.queue) refl refl refl
          (λ q. ap (λ o. marks_of (unwrap_or o no_mark).marks) (c.begin_walk.ensures.none q)) empty
          (rw same at c.in_ok-begin.ensures.begins);
      right = subst (λ h. IsRight h new c.begin.new.front) same c.in_ok-begin.ensures.right;
      holds = holds_first _ c.args.first (IsHeld c.args.graph.now) (IsHeld mid) (IsHeld new)
          (λ q k. subst (λ l. IsTrue (is_some (lookup (same_id q) l))) c.begin_walk.ensures.held k) c.begin.ensures.meets.more;
      after = steps_more _ mid _ _ (steps_begin c.args.graph.now mid c.begin_walk.ensures.source c.begin_walk.ensures.held) c.in_ok-begin.ensures.meets.graph;
    }

pub loop-other-preserved : goal.loop-other-preserved
loop-other-preserved g c =
    let below : c.loop-other.other-index < length c.args.others.now = omega arith in
    let old = c.loop-other.invariant in
    let new = c.begin-in-loop-other.new.graph in
    let same = old.after.same_history in
    record {
      begun = begun_taken _ c.args.first c.args.others.now c.loop-other.other-index _ _ (marks_at c.loop-other.graph) (marks_at new) (queued_ids c.loop-other.graph c.loop-other.front.queue) (queued_ids new c.begin-in-loop-other.new.front.queue) below refl refl refl
          old.begun (rw same at c.in_ok-begin-2.ensures.begins);
      right = subst (λ h. IsRight h new c.begin-in-loop-other.new.front) same c.in_ok-begin-2.ensures.right;
      holds = holds_another _ c.args.first c.args.others.now c.loop-other.other-index _ (IsHeld c.args.graph.now) (IsHeld c.loop-other.graph) (IsHeld new) below old.holds c.begin-in-loop-other.ensures.meets.more;
      after = steps_more _ c.loop-other.graph _ _ old.after c.in_ok-begin-2.ensures.meets.graph;
    }

pub returns-in_err-begin-clause-after : goal.returns-in_err-begin-clause-after
returns-in_err-begin-clause-after g c = steps_more _ c.begin_walk.new.graph _ _ (steps_begin c.args.graph.now c.begin_walk.new.graph c.begin_walk.ensures.source c.begin_walk.ensures.held) (graph_as _ _ _ _ (search rules) c.in_err-begin.ensures.meets.graph)

pub returns-in_err-begin-2-clause-holds : goal.returns-in_err-begin-2-clause-holds
returns-in_err-begin-2-clause-holds g c =
    let below : c.loop-other.other-index < length c.args.others.now = omega arith in
    holds_all c.args.first c.args.others.now (c.loop-other.other-index + 1) (IsHeld c.args.graph.now) (IsHeld c.begin-in-loop-other.new.graph)
    (holds_another _ c.args.first c.args.others.now c.loop-other.other-index _ (IsHeld c.args.graph.now) (IsHeld c.loop-other.graph) (IsHeld c.begin-in-loop-other.new.graph) below c.loop-other.invariant.holds c.begin-in-loop-other.ensures.meets.more)

pub returns-in_err-begin-2-clause-after : goal.returns-in_err-begin-2-clause-after
returns-in_err-begin-2-clause-after g c = steps_more _ c.loop-other.graph _ _ c.loop-other.invariant.after (graph_as _ _ _ _ (search rules) c.in_err-begin-2.ensures.meets.graph)

pub returns-clause-begun : goal.returns-clause-begun
returns-clause-begun g c =
    let done : length c.args.others.now ≤ c.loop-other.other-index = omega arith in
    rw (take_all c.loop-other.other-index c.args.others.now done) at c.loop-other.invariant.begun

pub returns-clause-right : goal.returns-clause-right
returns-clause-right g c = c.loop-other.invariant.right

pub returns-clause-holds : goal.returns-clause-holds
returns-clause-holds g c =
    let done : length c.args.others.now ≤ c.loop-other.other-index = omega arith in
    rw (take_all c.loop-other.other-index c.args.others.now done) at c.loop-other.invariant.holds

pub returns-clause-after : goal.returns-clause-after
returns-clause-after g c = c.loop-other.invariant.after
