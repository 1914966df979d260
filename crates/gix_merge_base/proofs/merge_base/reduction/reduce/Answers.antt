use Rattle.std.proofs.Common.{◌≡◌, sym, ap, subst, ◌∙◌, length, not, is_some, rules, arith}
use Rattle.std.specs.List.{filter}
use Rattle.std.proofs.lemmas.Fn.{filter_same}
use Rattle.gix_revwalk.specs.History.{entry_at}
use Rattle.gix_merge_base.specs.Counting.{CountsUnmet}
use Rattle.gix_merge_base.specs.Front.{IsQueued, CountsLeft}
use Rattle.gix_merge_base.specs.PaintQueue.{marks_at, queued_at, queued_ids, ids_at, AreIn}
use Rattle.gix_merge_base.specs.Reducing.{firsts}
use Rattle.gix_merge_base.specs.ReduceSteps.{Reducing, Reduced}
use Rattle.gix_merge_base.proofs.Alone.{reduced_exactly, reduced_keeps}
use Rattle.gix_merge_base.proofs.Listed.{known-inside, known-every}
use Rattle.gix_merge_base.proofs.Reduction.{reduce_begins}
use Rattle.gix_merge_base.proofs.Loads.{loads_then, loads_within, from_firsts, from_known}
use Rattle.gix_merge_base.proofs.Residuals.{count_err, cause_err}
use Rattle.gix_merge_base.proofs.merge_base.reduction.reduce.Goals as goal

pub meet_parents-requires-clause-inside : goal.meet_parents-requires-clause-inside
meet_parents-requires-clause-inside g c = subst (AreIn c.list.new.graph) (sym c.deref-2.ensures.value) c.in_ok-numbers.ensures.inside

pub meet_parents-requires-clause-left : goal.meet_parents-requires-clause-left
meet_parents-requires-clause-left g c =
    let listed = c.list.new.graph in
    let all : c.new-walk.result.front.open_entries ≡ length c.in_ok-numbers.numbers.items = omega (arith, c.in_ok-numbers.numbers.ok.0, c.len.ensures, c.new-walk.ensures.count) in
    subst (λ l. CountsUnmet (marks_at listed) (queued_at listed) (ids_at listed l) c.new-walk.result.front.open_entries) (sym c.deref-2.ensures.value)
    (subst (λ o. CountsUnmet (marks_at listed) (queued_at listed) (ids_at listed c.in_ok-numbers.numbers.items) o) (sym all) c.in_ok-numbers.ensures.unmet)

pub meet-requires-clause-left : goal.meet-requires-clause-left
meet-requires-clause-left g c =
    let new = c.meet_parents.new.graph in
    let is : c.deref-3.result.now ≡ c.deref-2.result.now = c.deref-3.ensures.value ∙ sym c.deref-2.ensures.value in
    subst (λ l. CountsLeft l new c.meet_parents.new.walk.front) (sym (ap (ids_at new) is ∙ c.in_ok-meet_parents.ensures.same.1)) c.in_ok-meet_parents.ensures.left

pub meet-requires-clause-queued : goal.meet-requires-clause-queued
meet-requires-clause-queued g c = subst (λ h. IsQueued h c.meet_parents.new.graph c.meet_parents.new.walk.front) (sym c.in_ok-meet_parents.ensures.after.graph.same_history) c.in_ok-meet_parents.ensures.queued

pub meet-requires-clause-begun : goal.meet-requires-clause-begun
meet-requires-clause-begun g c =
    let listed = c.list.new.graph in
    let new = c.meet_parents.new.graph in
    let h = g.S.Find.history listed.source in
    let is : c.deref-3.result.now ≡ c.deref-2.result.now = c.deref-3.ensures.value ∙ sym c.deref-2.ensures.value in
    let ids : ids_at new c.deref-3.result.now ≡ ids_at listed c.deref-2.result.now = ap (ids_at new) is ∙ c.in_ok-meet_parents.ensures.same.1 in
    subst (λ z. Reducing z (ids_at new c.deref-3.result.now) (marks_at new) (queued_ids new c.meet_parents.new.walk.front.queue)) (sym c.in_ok-meet_parents.ensures.after.graph.same_history)
    (subst (λ l. Reducing h l (marks_at new) (queued_ids new c.meet_parents.new.walk.front.queue)) (sym ids)
    (reduce_begins h (ids_at listed c.deref-2.result.now) (marks_at listed) (marks_at new) (queued_ids new c.meet_parents.new.walk.front.queue) c.in_ok-numbers.ensures.unmarked c.in_ok-meet_parents.ensures.handed))

pub returns-clause-some : goal.returns-clause-some
returns-clause-some g c = ((λ x. not (marks_at c.meet.new.graph x).stale), filter_same _ _ _ (λ x b f' s. search rules) _ _ c.retain.ensures.filtered ∙ ap (filter (λ x. not (marks_at c.meet.new.graph x).stale)) c.in_ok-left.ensures)

pub returns-clause-kept : goal.returns-clause-kept
unfolding returns-clause-some
returns-clause-kept g c acyclic c' max =
    let h = g.S.Find.history c.args.graph.now.source in
    let listed = c.list.new.graph in
    let mid = c.meet_parents.new.graph in
    let new = c.meet.new.graph in
    let ids = c.args.ids.now in
    let ns = ids_at mid c.deref-3.result.now in
    let three : c.deref-3.result.now ≡ c.deref-2.result.now = c.deref-3.ensures.value ∙ sym c.deref-2.ensures.value in
    let known : ns ≡ filter (λ p. is_some (entry_at h p)) (firsts ids) =
    ap (ids_at mid) three ∙ c.in_ok-meet_parents.ensures.same.1 ∙ ap (ids_at listed) c.deref-2.ensures.value ∙ c.in_ok-numbers.ensures.ids
    ∙ ap (filter (λ p. is_some (entry_at h p))) (c.deref.ensures.value ∙ c.in_ok-left.ensures) in
    let chain = c.in_ok-meet_parents.ensures.after.graph.same_history ∙ c.in_ok-numbers.ensures.after.graph.same_history in
    let reduced : Reduced h ns (marks_at new) = subst (λ z. Reduced z ns (marks_at new)) chain c.in_ok-meet.ensures.met in
    rw ((returns-clause-some g c).1) (reduced_keeps h ids ns (marks_at new) acyclic reduced (known-inside h ids ns known) (known-every h ids ns known) c' max)

pub returns-clause-independent : goal.returns-clause-independent
unfolding returns-clause-some
returns-clause-independent g c acyclic never c' =
    let h = g.S.Find.history c.args.graph.now.source in
    let listed = c.list.new.graph in
    let mid = c.meet_parents.new.graph in
    let new = c.meet.new.graph in
    let ids = c.args.ids.now in
    let ns = ids_at mid c.deref-3.result.now in
    let three : c.deref-3.result.now ≡ c.deref-2.result.now = c.deref-3.ensures.value ∙ sym c.deref-2.ensures.value in
    let known : ns ≡ filter (λ p. is_some (entry_at h p)) (firsts ids) =
    ap (ids_at mid) three ∙ c.in_ok-meet_parents.ensures.same.1 ∙ ap (ids_at listed) c.deref-2.ensures.value ∙ c.in_ok-numbers.ensures.ids
    ∙ ap (filter (λ p. is_some (entry_at h p))) (c.deref.ensures.value ∙ c.in_ok-left.ensures) in
    let chain = c.in_ok-meet_parents.ensures.after.graph.same_history ∙ c.in_ok-numbers.ensures.after.graph.same_history in
    let reduced : Reduced h ns (marks_at new) = subst (λ z. Reduced z ns (marks_at new)) chain c.in_ok-meet.ensures.met in
    rw ((returns-clause-some g c).1) (reduced_exactly h ids ns (marks_at new) acyclic reduced (known-inside h ids ns known) (known-every h ids ns known) never c')

pub returns-in_err-numbers-clause-reached : goal.returns-in_err-numbers-clause-reached
returns-in_err-numbers-clause-reached g c = (loads_within c.deref.result.now (from_firsts _ _ _ (c.deref.ensures.value ∙ c.in_ok-left.ensures)) c.list.ensures.loads).held

pub returns-in_err-meet_parents-clause-reached : goal.returns-in_err-meet_parents-clause-reached
returns-in_err-meet_parents-clause-reached g c =
    let h = g.S.Find.history c.args.graph.now.source in
    let ids = c.args.ids.now in
    let listed = c.list.new.graph in
    let ns = ids_at listed c.deref-2.result.now in
    let known : ns ≡ filter (λ p. is_some (entry_at h p)) (firsts ids) =
    ap (ids_at listed) c.deref-2.ensures.value ∙ c.in_ok-numbers.ensures.ids ∙ ap (filter (λ p. is_some (entry_at h p))) (c.deref.ensures.value ∙ c.in_ok-left.ensures) in
    let met = rw c.list.ensures.after.graph.same_history at c.meet_parents.ensures.loads in
    (loads_then (loads_within c.deref.result.now (from_firsts h ids _ (c.deref.ensures.value ∙ c.in_ok-left.ensures)) c.list.ensures.loads) (loads_within ns (from_known h ids ns known) met)).held

pub returns-in_err-meet-clause-reached : goal.returns-in_err-meet-clause-reached
returns-in_err-meet-clause-reached g c =
    let h = g.S.Find.history c.args.graph.now.source in
    let ids = c.args.ids.now in
    let listed = c.list.new.graph in
    let mid = c.meet_parents.new.graph in
    let ns = ids_at listed c.deref-2.result.now in
    let known : ns ≡ filter (λ p. is_some (entry_at h p)) (firsts ids) =
    ap (ids_at listed) c.deref-2.ensures.value ∙ c.in_ok-numbers.ensures.ids ∙ ap (filter (λ p. is_some (entry_at h p))) (c.deref.ensures.value ∙ c.in_ok-left.ensures) in
    let three : ids_at mid c.deref-3.result.now ≡ ns = ap (ids_at mid) (c.deref-3.ensures.value ∙ sym c.deref-2.ensures.value) ∙ c.in_ok-meet_parents.ensures.same.1 in
    let met = rw c.list.ensures.after.graph.same_history at c.meet_parents.ensures.loads in
    let all = rw (c.in_ok-meet_parents.ensures.after.graph.same_history, c.in_ok-numbers.ensures.after.graph.same_history) at c.meet.ensures.loads in
    (loads_then (loads_within c.deref.result.now (from_firsts h ids _ (c.deref.ensures.value ∙ c.in_ok-left.ensures)) c.list.ensures.loads)
    (loads_then (loads_within ns (from_known h ids ns known) met) (loads_within (ids_at mid c.deref-3.result.now) (from_known h ids _ (three ∙ known)) all))).held

pub returns-clause-reached : goal.returns-clause-reached
returns-clause-reached g c =
    let h = g.S.Find.history c.args.graph.now.source in
    let ids = c.args.ids.now in
    let listed = c.list.new.graph in
    let mid = c.meet_parents.new.graph in
    let ns = ids_at listed c.deref-2.result.now in
    let known : ns ≡ filter (λ p. is_some (entry_at h p)) (firsts ids) =
    ap (ids_at listed) c.deref-2.ensures.value ∙ c.in_ok-numbers.ensures.ids ∙ ap (filter (λ p. is_some (entry_at h p))) (c.deref.ensures.value ∙ c.in_ok-left.ensures) in
    let three : ids_at mid c.deref-3.result.now ≡ ns = ap (ids_at mid) (c.deref-3.ensures.value ∙ sym c.deref-2.ensures.value) ∙ c.in_ok-meet_parents.ensures.same.1 in
    let met = rw c.list.ensures.after.graph.same_history at c.meet_parents.ensures.loads in
    let all = rw (c.in_ok-meet_parents.ensures.after.graph.same_history, c.in_ok-numbers.ensures.after.graph.same_history) at c.meet.ensures.loads in
    (loads_then (loads_within c.deref.result.now (from_firsts h ids _ (c.deref.ensures.value ∙ c.in_ok-left.ensures)) c.list.ensures.loads)
    (loads_then (loads_within ns (from_known h ids ns known) met) (loads_within (ids_at mid c.deref-3.result.now) (from_known h ids _ (three ∙ known)) all))).held

pub returns-in_err-numbers-clause-count : goal.returns-in_err-numbers-clause-count
returns-in_err-numbers-clause-count g c = count_err _ c.in_err-numbers.field-0.0 _ _ c.from_residual-in_err-numbers.ensures.1 c.in_err-numbers.ensures.after.graph.count

pub returns-in_err-numbers-clause-cause : goal.returns-in_err-numbers-clause-cause
returns-in_err-numbers-clause-cause g c = cause_err _ c.in_err-numbers.field-0.0 c.from_residual-in_err-numbers.ensures.1 c.in_err-numbers.ensures.after.cause

pub returns-in_err-numbers-clause-history : goal.returns-in_err-numbers-clause-history
returns-in_err-numbers-clause-history g c = c.list.ensures.after.graph.same_history

pub returns-in_err-numbers-clause-held : goal.returns-in_err-numbers-clause-held
returns-in_err-numbers-clause-held g c = c.list.ensures.after.graph.held

pub returns-in_err-meet_parents-clause-count : goal.returns-in_err-meet_parents-clause-count
returns-in_err-meet_parents-clause-count g c = count_err _ c.in_err-meet_parents.field-0.0 _ _ c.from_residual-in_err-meet_parents.ensures.1 (rw c.in_ok-numbers.ensures.after.graph.count at c.in_err-meet_parents.ensures.after.graph.count)

pub returns-in_err-meet_parents-clause-cause : goal.returns-in_err-meet_parents-clause-cause
returns-in_err-meet_parents-clause-cause g c = cause_err _ c.in_err-meet_parents.field-0.0 c.from_residual-in_err-meet_parents.ensures.1 c.in_err-meet_parents.ensures.after.cause

pub returns-in_err-meet_parents-clause-history : goal.returns-in_err-meet_parents-clause-history
returns-in_err-meet_parents-clause-history g c = c.meet_parents.ensures.after.graph.same_history ∙ c.list.ensures.after.graph.same_history

pub returns-in_err-meet_parents-clause-held : goal.returns-in_err-meet_parents-clause-held
returns-in_err-meet_parents-clause-held g c q k = c.meet_parents.ensures.after.graph.held q (c.list.ensures.after.graph.held q k)

pub returns-in_err-meet-clause-count : goal.returns-in_err-meet-clause-count
returns-in_err-meet-clause-count g c = count_err _ c.in_err-meet.field-0.0 _ _ c.from_residual-in_err-meet.ensures.1 (rw (c.in_ok-meet_parents.ensures.after.graph.count, c.in_ok-numbers.ensures.after.graph.count) at c.in_err-meet.ensures.after.graph.count)

pub returns-in_err-meet-clause-cause : goal.returns-in_err-meet-clause-cause
returns-in_err-meet-clause-cause g c = cause_err _ c.in_err-meet.field-0.0 c.from_residual-in_err-meet.ensures.1 c.in_err-meet.ensures.after.cause

pub returns-in_err-meet-clause-history : goal.returns-in_err-meet-clause-history
returns-in_err-meet-clause-history g c = c.meet.ensures.after.graph.same_history ∙ c.meet_parents.ensures.after.graph.same_history ∙ c.list.ensures.after.graph.same_history

pub returns-in_err-meet-clause-held : goal.returns-in_err-meet-clause-held
returns-in_err-meet-clause-held g c q k = c.meet.ensures.after.graph.held q (c.meet_parents.ensures.after.graph.held q (c.list.ensures.after.graph.held q k))

pub returns-clause-history : goal.returns-clause-history
returns-clause-history g c = c.meet.ensures.after.graph.same_history ∙ c.meet_parents.ensures.after.graph.same_history ∙ c.list.ensures.after.graph.same_history

pub returns-clause-held : goal.returns-clause-held
returns-clause-held g c q k = c.meet.ensures.after.graph.held q (c.meet_parents.ensures.after.graph.held q (c.list.ensures.after.graph.held q k))

pub returns-clause-count : goal.returns-clause-count
returns-clause-count g c = c.in_ok-meet.ensures.after.graph.count ∙ c.in_ok-meet_parents.ensures.after.graph.count ∙ c.in_ok-numbers.ensures.after.graph.count
