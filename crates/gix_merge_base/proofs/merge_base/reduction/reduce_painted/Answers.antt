use Rattle.std.proofs.Common.{◌≡◌, ◌+◌, sym, ap, subst, ◌∙◌, refl, not, Ok, is_some, rules}
use Rattle.std.specs.List.{filter}
use Rattle.std.proofs.lemmas.Fn.{filter_same}
use Rattle.gix_revwalk.specs.History.{entry_at}
use Rattle.gix_revwalk.proofs.GraphAfters.{graph_as}
use Rattle.gix_merge_base.specs.Counting.{times, unstale}
use Rattle.gix_merge_base.specs.PaintQueue.{marks_at, queued_at, queued_ids, ids_at, AreIn, Keyed}
use Rattle.gix_merge_base.specs.Reducing.{firsts}
use Rattle.gix_merge_base.specs.ReduceSteps.{Reducing, Reduced}
use Rattle.gix_merge_base.proofs.AfterCalls.{after_more, after_ok}
use Rattle.gix_merge_base.proofs.Alone.{reduced_exactly, reduced_keeps}
use Rattle.gix_merge_base.proofs.Counting.{unmet_painted}
use Rattle.gix_merge_base.proofs.Fronts.{queued_kept}
use Rattle.gix_merge_base.proofs.Listed.{filter-every, known-inside, known-every}
use Rattle.gix_merge_base.proofs.Loads.{loads_then, loads_within, from_known}
use Rattle.gix_merge_base.proofs.Reduction.{firsts_all, reducing_same}
use Rattle.gix_merge_base.proofs.Residuals.{after_err}
use Rattle.gix_merge_base.proofs.merge_base.reduction.reduce_painted.Goals as goal

pub count_unmet-walk-requires : goal.count_unmet-walk-requires
count_unmet-walk-requires g c = subst (AreIn c.numbers_of.new.graph) (sym c.deref-2.ensures.value) c.in_ok-numbers.ensures.inside

pub meet-requires-clause-inside : goal.meet-requires-clause-inside
meet-requires-clause-inside g c = subst (AreIn c.numbers_of.new.graph) (sym c.deref-3.ensures.value) c.in_ok-numbers.ensures.inside

pub meet-requires-clause-begun : goal.meet-requires-clause-begun
meet-requires-clause-begun g c =
    let old = c.args.graph.now in
    let mid = c.numbers_of.new.graph in
    let h = g.S.Find.history old.source in
    let queue = c.args.walk.now.front.queue in
    let ids = rw c.deref.ensures.value at c.in_ok-numbers.ensures.ids in
    let all = filter-every (λ p. is_some (entry_at h p)) c.args.painted.items c.requires.has in
    subst (λ z. Reducing z (ids_at mid c.deref-3.result.now) (marks_at mid) (queued_ids mid queue)) (sym c.in_ok-numbers.ensures.after.graph.same_history)
    (reducing_same h c.args.painted.items (ids_at mid c.deref-3.result.now) (marks_at old) (marks_at mid) (queued_ids old queue) (queued_ids mid queue)
    (ap (ids_at mid) c.deref-3.ensures.value ∙ ids ∙ all) c.in_ok-numbers.ensures.marks
    (queued_kept h old mid c.args.walk.now.front c.in_ok-numbers.ensures.numbers c.requires.right.queued).1 c.requires.reducing)

pub meet-requires-clause-left : goal.meet-requires-clause-left
meet-requires-clause-left g c =
    let old = c.args.graph.now in
    let mid = c.numbers_of.new.graph in
    let h = g.S.Find.history old.source in
    let queue = c.args.walk.now.front.queue in
    let counted = c.in_ok-numbers.ensures.counted in
    let ids = ap (ids_at mid) c.deref-3.ensures.value ∙ c.in_ok-numbers.ensures.ids in
    unmet_painted (marks_at old) (marks_at mid) (queued_at old) (queued_at mid) (queued_ids old queue) (ids_at mid c.deref-3.result.now) c.args.walk.now.front.open_entries c.count_unmet-walk.result
    c.requires.right.counts c.requires.reducing.queued c.in_ok-numbers.ensures.marks
    (λ q. counted q ∙ ap (λ l. queued_at old q + times q l) (sym ids))
    (c.count_unmet-walk.ensures ∙ ap (λ l. unstale (marks_at mid) (ids_at mid l)) (c.deref-2.ensures.value ∙ sym c.deref-3.ensures.value))

pub meet-requires-clause-queued : goal.meet-requires-clause-queued
meet-requires-clause-queued g c =
    let old = c.args.graph.now in
    let mid = c.numbers_of.new.graph in
    let kept = queued_kept (g.S.Find.history old.source) old mid c.args.walk.now.front c.in_ok-numbers.ensures.numbers c.requires.right.queued in
    record { held = kept.0.held; keyed = subst (λ z. Keyed z mid c.args.walk.now.front.queue) (sym c.in_ok-numbers.ensures.after.graph.same_history) kept.0.keyed }

pub returns-clause-some : goal.returns-clause-some
returns-clause-some g c = (
  (λ x. not (marks_at c.meet.new.graph x).stale),
  filter_same _ _ _ (λ x b f' s. search rules) _ _ c.retain.ensures.filtered ∙ ap (filter (λ x. not (marks_at c.meet.new.graph x).stale)) (sym (firsts_all c.args.painted.items c.requires.once)),
)

pub returns-clause-kept : goal.returns-clause-kept
unfolding returns-clause-some
returns-clause-kept g c acyclic c' max =
    let h = g.S.Find.history c.args.graph.now.source in
    let mid = c.numbers_of.new.graph in
    let new = c.meet.new.graph in
    let ids = c.args.painted.items in
    let ns = ids_at mid c.deref-3.result.now in
    let known : ns ≡ filter (λ p. is_some (entry_at h p)) (firsts ids) =
    ap (ids_at mid) c.deref-3.ensures.value ∙ c.in_ok-numbers.ensures.ids ∙ ap (filter (λ p. is_some (entry_at h p))) (c.deref.ensures.value ∙ sym (firsts_all ids c.requires.once)) in
    let reduced : Reduced h ns (marks_at new) = subst (λ z. Reduced z ns (marks_at new)) c.in_ok-numbers.ensures.after.graph.same_history c.in_ok-meet.ensures.met in
    rw ((returns-clause-some g c).1) (reduced_keeps h ids ns (marks_at new) acyclic reduced (known-inside h ids ns known) (known-every h ids ns known) c' max)

pub returns-clause-independent : goal.returns-clause-independent
unfolding returns-clause-some
returns-clause-independent g c acyclic never c' =
    let h = g.S.Find.history c.args.graph.now.source in
    let mid = c.numbers_of.new.graph in
    let new = c.meet.new.graph in
    let ids = c.args.painted.items in
    let ns = ids_at mid c.deref-3.result.now in
    let known : ns ≡ filter (λ p. is_some (entry_at h p)) (firsts ids) =
    ap (ids_at mid) c.deref-3.ensures.value ∙ c.in_ok-numbers.ensures.ids ∙ ap (filter (λ p. is_some (entry_at h p))) (c.deref.ensures.value ∙ sym (firsts_all ids c.requires.once)) in
    let reduced : Reduced h ns (marks_at new) = subst (λ z. Reduced z ns (marks_at new)) c.in_ok-numbers.ensures.after.graph.same_history c.in_ok-meet.ensures.met in
    rw ((returns-clause-some g c).1) (reduced_exactly h ids ns (marks_at new) acyclic reduced (known-inside h ids ns known) (known-every h ids ns known) never c')

pub returns-in_err-numbers-clause-loads : goal.returns-in_err-numbers-clause-loads
returns-in_err-numbers-clause-loads g c = rw c.deref.ensures.value at c.numbers_of.ensures.loads

pub returns-in_err-meet-clause-loads : goal.returns-in_err-meet-clause-loads
returns-in_err-meet-clause-loads g c =
    let h = g.S.Find.history c.args.graph.now.source in
    let mid = c.numbers_of.new.graph in
    let ids = c.args.painted.items in
    let ns = ids_at mid c.deref-3.result.now in
    let known : ns ≡ filter (λ p. is_some (entry_at h p)) (firsts ids) =
    ap (ids_at mid) c.deref-3.ensures.value ∙ c.in_ok-numbers.ensures.ids ∙ ap (filter (λ p. is_some (entry_at h p))) (c.deref.ensures.value ∙ sym (firsts_all ids c.requires.once)) in
    loads_then (rw c.deref.ensures.value at c.numbers_of.ensures.loads) (loads_within ns (from_known h ids ns known) (rw c.in_ok-numbers.ensures.after.graph.same_history at c.meet.ensures.loads))

pub returns-clause-loads : goal.returns-clause-loads
returns-clause-loads g c =
    let h = g.S.Find.history c.args.graph.now.source in
    let mid = c.numbers_of.new.graph in
    let ids = c.args.painted.items in
    let ns = ids_at mid c.deref-3.result.now in
    let known : ns ≡ filter (λ p. is_some (entry_at h p)) (firsts ids) =
    ap (ids_at mid) c.deref-3.ensures.value ∙ c.in_ok-numbers.ensures.ids ∙ ap (filter (λ p. is_some (entry_at h p))) (c.deref.ensures.value ∙ sym (firsts_all ids c.requires.once)) in
    loads_then (rw c.deref.ensures.value at c.numbers_of.ensures.loads) (loads_within ns (from_known h ids ns known) (rw c.in_ok-numbers.ensures.after.graph.same_history at c.meet.ensures.loads))

pub returns-in_err-numbers-clause-after : goal.returns-in_err-numbers-clause-after
returns-in_err-numbers-clause-after g c = after_err _ _ _ c.in_err-numbers.field-0.0 c.from_residual.ensures.1 c.in_err-numbers.ensures.after

pub returns-in_err-meet-clause-after : goal.returns-in_err-meet-clause-after
returns-in_err-meet-clause-after g c =
    after_more c.args.graph.now c.numbers_of.new.graph c.meet.new.graph _ (after_ok _ _ _ c.in_ok-numbers.ensures.after)
    (after_err _ _ _ c.in_err-meet.field-0.0 c.from_residual-in_err-meet.ensures.1 c.in_err-meet.ensures.after)

pub returns-clause-after : goal.returns-clause-after
returns-clause-after g c =
    after_more c.args.graph.now c.numbers_of.new.graph c.meet.new.graph _ (after_ok _ _ _ c.in_ok-numbers.ensures.after)
    (record { graph = graph_as _ _ (Ok tt) _ refl c.in_ok-meet.ensures.after.graph; cause = tt })
