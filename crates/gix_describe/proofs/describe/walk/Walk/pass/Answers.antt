use Rattle.std.proofs.Common.{ℕ, Some, None, ◌≡◌, ◌<◌, ◌≤◌, ◌+◌, ◌∙◌, sym, ap, subst, refl, true, false, [], ◌∷◌, ◌++◌, length, slice_index, get_or, arith, inl, inr}
use Rattle.std.specs.Int.{bit_at}
use Rattle.std.specs.Vec.{with_items}
use Rattle.std.proofs.lemmas.List.{length_push, with_items_is}
use Rattle.gix_revwalk.specs.Followed.{followed}
use Rattle.gix_revwalk.specs.Graph.{held_at}
use Rattle.gix_revwalk.specs.Noted.{noted_at}
use Rattle.gix_describe.specs.Trace.{late_of}
use Rattle.gix_describe.specs.WalkState.{IsCounted, IsSettledAt}
use Rattle.gix_describe.specs.Outcomes.{names_of}
use Rattle.gix_describe.proofs.WalkSteps.{counted_more, marked_more_by, queue_more, goes_more, hand_refused, next_there, met_there, many, left_marked, late_le, split_push, completed_at, settled_at, settles_from}
use Rattle.gix_describe.proofs.Tallies.{counts_left, tally_from, tally_left}
use Rattle.gix_describe.proofs.Asked.{asks_more, asks_answered, err_came, refusal_came}
use Rattle.gix_describe.proofs.Lacking.{noted_more}
use Rattle.gix_revwalk.specs.History.{entry_at, parents_in}
use Rattle.gix_describe.specs.Order.{met_after}
use Rattle.gix_describe.proofs.Ranking.{met_list_push}
use Rattle.gix_describe.proofs.Standing.{fault_stands}
use Rattle.gix_describe.proofs.describe.walk.Walk.pass.Goals as goal

pub returns-then-self-clause-asked : goal.returns-then-self-clause-asked
returns-then-self-clause-asked g c =
    let a = c.requires.admitted in
    let h = followed c.args.search.first_parent (g.S.Find.history c.args.graph.now.source) in
    let len : length a.popped ≡ 4294967295 = sym a.at.seen ∙ c.if-self.true in
    record { same_history = refl; count = refl; cause = many (c.args.search.tie, None) h c.args.search.start a.popped c.args.met.now.id 4294967295 a.at.walk a.next a.at.has len }

pub count_late-requires-clause-room : goal.count_late-requires-clause-room
count_late-requires-clause-room g c =
    let a = c.requires.admitted in
    let h = followed c.args.search.first_parent (g.S.Find.history c.args.graph.now.source) in
    let s = c.args.search.start in
    λ k below.
    let low : k < length c.args.self.now.counts.items = subst (λ l. k < length l) c.deref_mut.ensures.value below in
    let each : length c.args.self.now.counts.items ≡ length c.args.self.now.candidates.items = a.counted.each in
    let is : slice_index c.args.self.now.counts.items k ≡ length (late_of h (get_or c.args.self.now.candidates.items k s) a.popped) = a.counted.late k (omega arith) in
    let le : length (late_of h (get_or c.args.self.now.candidates.items k s) a.popped) ≤ length a.popped = late_le h _ a.popped in
    let seen : c.args.self.now.seen ≡ length a.popped = a.at.seen in
    let not_full : c.args.self.now.seen < 4294967295 = omega arith in
    let at : slice_index c.deref_mut.result.now k ≡ slice_index c.args.self.now.counts.items k = ap (λ l. slice_index l k) c.deref_mut.ensures.value in
    omega arith

pub returns-then-settles-clause-passed : goal.returns-then-settles-clause-passed
returns-then-settles-clause-passed g c =
    let a = c.requires.admitted in
    let h = followed c.args.search.first_parent (g.S.Find.history c.args.graph.now.source) in
    let s = c.args.search.start in
    let x = c.args.met.now.id in
    let w = c.args.self.now in
    let held = held_at c.args.graph.now in
    let names = names_of c.args.names.now.entries in
    let counted = rw (c.deref_mut.ensures.value, c.marks_of-marks.ensures) at c.count_late.ensures.counted in
    let same : length c.count_late.new.counts ≡ length w.counts.items = c.count_late.ensures.len ∙ ap length c.deref_mut.ensures.value in
    let more : IsCounted h s (a.popped ++ x ∷ []) w.candidates.items c.count_late.new.counts = counted_more h s a.popped w.candidates.items w.counts.items c.count_late.new.counts x held a.at.marked a.counted same counted in
    let ns = (with_items w.counts c.count_late.new.counts).items in
    let after : IsCounted h s (a.popped ++ x ∷ []) w.candidates.items ns = subst (λ l. IsCounted h s (a.popped ++ x ∷ []) w.candidates.items l) (sym (with_items_is w.counts c.count_late.new.counts (same ∙ sym w.counts.ok.0))) more in
    let pushed : length (a.popped ++ x ∷ []) ≡ length a.popped + 1 = length_push a.popped x in
    let marks = λ (j : ℕ) (below : j < length w.candidates.items). ap (λ m. bit_at m j) c.marks_of-marks.ensures ∙ a.at.marked.marks j below x in
    let lacking = tally_left w.candidates.items x held w.queue c.marks_of-marks.result w.lacking.items c.leave.new.lacking.items c.marks_of-marks.ensures a.tallied.each a.tallied.is c.leave.ensures.left in
    let settles = c.settles.ensures.0 c.if-settles.true in
    let settled : IsSettledAt c.args.search.tie h s names a.popped x = settled_at h s names a.popped w.candidates.items ns x c.marks_of-marks.result a.named after marks c.args.search.tie c.leave.new.lacking.items held w.queue a.at.queue a.at.marked.marks lacking settles in
    record {
      popped = a.popped ++ x ∷ [];
      walk = goes_more (c.args.search.tie, None) h s a.popped x a.at.walk a.next;
      has = a.at.has;
      counted = after;
      named = a.named;
      seen = let seen : w.seen ≡ length a.popped = a.at.seen in omega arith;
      left = λ j below lowest d o.
          let each : length ns ≡ length w.candidates.items = after.each in
          let both = settles.settled j (omega arith) lowest in
          let done = completed_at h s names a.popped w.candidates.items ns x c.marks_of-marks.result a.named after marks c.args.search.tie c.leave.new.lacking.items held w.queue a.at.queue a.at.marked.marks lacking j below both.0 both.1 in
          left_marked h s a.popped x (get_or w.candidates.items j s) done.left done.own d o;
      few = a.few;
      none = λ e d o.
          let each : length ns ≡ length w.candidates.items = after.each in
          let some : 0 < length ns = settles.some in
          let none : length w.candidates.items ≡ 0 = ap length e in
          absurd (omega arith);
      before = λ ys rest z y e. elim (split_push a.popped x ys (y ∷ rest) z e) as (λ _. ¬ IsSettledAt c.args.search.tie h s names ys z) [
        | inl k ↦ absurd (let f : y ∷ rest ≡ [] = k.2 in cc)
        | inr k ↦ a.going ys k.0 z k.1
      ];
      stop = inl (record { ys = a.popped; x = x; is = refl; settled = settled });
      held = record { ys = a.popped; x = x; is = refl; met = a.at.marked.met };
    }

pub returns-clause-passed : goal.returns-clause-passed
returns-clause-passed g c =
    let a = c.requires.admitted in
    let h = followed c.args.search.first_parent (g.S.Find.history c.args.graph.now.source) in
    let s = c.args.search.start in
    let w = c.args.self.now in
    let on = rw c.marks_of-marks.ensures at c.in_ok-hand_on.ensures.handed in
    let counted = rw (c.deref_mut.ensures.value, c.marks_of-marks.ensures) at c.count_late.ensures.counted in
    let same : length c.count_late.new.counts ≡ length w.counts.items = c.count_late.ensures.len ∙ ap length c.deref_mut.ensures.value in
    let more : IsCounted h s (a.popped ++ c.args.met.now.id ∷ []) w.candidates.items c.count_late.new.counts =
    counted_more h s a.popped w.candidates.items w.counts.items c.count_late.new.counts c.args.met.now.id (held_at c.args.graph.now) a.at.marked a.counted same counted in
    let pushed : length (a.popped ++ c.args.met.now.id ∷ []) ≡ length a.popped + 1 = length_push a.popped c.args.met.now.id in
    let names = names_of c.args.names.now.entries in
    let after : IsCounted h s (a.popped ++ c.args.met.now.id ∷ []) w.candidates.items (with_items w.counts c.count_late.new.counts).items =
    subst (λ l. IsCounted h s (a.popped ++ c.args.met.now.id ∷ []) w.candidates.items l) (sym (with_items_is w.counts c.count_late.new.counts (same ∙ sym w.counts.ok.0))) more in
    let marks = λ (j : ℕ) (below : j < length w.candidates.items). ap (λ m. bit_at m j) c.marks_of-marks.ensures ∙ a.at.marked.marks j below c.args.met.now.id in
    let lacking = tally_left w.candidates.items c.args.met.now.id (held_at c.args.graph.now) w.queue c.marks_of-marks.result w.lacking.items c.leave.new.lacking.items c.marks_of-marks.ensures a.tallied.each a.tallied.is c.leave.ensures.left in
    let refuted : IsSettledAt c.args.search.tie h s names a.popped c.args.met.now.id → ⊥ = λ st.
    let settles = settles_from h s names a.popped w.candidates.items (with_items w.counts c.count_late.new.counts).items c.args.met.now.id c.marks_of-marks.result a.named after marks c.args.search.tie c.leave.new.lacking.items (held_at c.args.graph.now) w.queue a.at.queue a.at.marked.marks lacking st in
    let f : true ≡ false = sym (c.settles.ensures.1 settles) ∙ c.if-settles.false in
    cc in
    let left = counts_left h s a.popped w.candidates.items c.args.met.now.id (held_at c.args.graph.now) (noted_at c.args.graph.now) w.queue c.marks_of-marks.result w.lacking.items c.leave.new.lacking.items a.at.queue a.at.marked a.at.noted c.marks_of-marks.ensures
    (λ j below. a.tallied.is j (let each : length w.lacking.items ≡ length w.candidates.items = a.tallied.each in omega arith)) c.leave.ensures.len c.leave.ensures.left in
    let counts = c.in_ok-hand_on.ensures.counts left in
    record {
      popped = a.popped ++ c.args.met.now.id ∷ [];
      at = record {
        walk = goes_more (c.args.search.tie, None) h s a.popped c.args.met.now.id a.at.walk a.next;
        has = a.at.has;
        queue = queue_more (c.args.search.tie, None) h s a.popped w.candidates.items c.args.met.now.id (held_at c.args.graph.now) (held_at c.hand_on.new.graph) w.queue c.hand_on.new.queue a.at.walk a.next a.at.marked a.at.queue on;
        numbered = c.in_ok-hand_on.ensures.numbered a.at.numbered;
        met = c.in_ok-hand_on.ensures.ids ∙ ap (λ l. met_after h l (parents_in (entry_at h c.args.met.now.id))) a.at.met ∙ sym (met_list_push h s a.popped c.args.met.now.id);
        ranked = c.in_ok-hand_on.ensures.ranked None a.at.ranked;
        noted = λ q. c.in_ok-hand_on.ensures.noted q ∙ noted_more a.popped c.args.met.now.id q _ (a.at.noted q);
        marked = marked_more_by (c.args.search.tie, None) h s a.popped w.candidates.items c.args.met.now.id (held_at c.args.graph.now) (held_at c.hand_on.new.graph) w.queue c.hand_on.new.queue a.at.walk a.next a.at.marked a.at.queue on;
        seen = let seen : w.seen ≡ length a.popped = a.at.seen in omega arith;
      };
      tallied = tally_from (held_at c.hand_on.new.graph) (noted_at c.hand_on.new.graph) _ counts (c.hand_on.ensures.places ∙ c.leave.ensures.len ∙ a.tallied.each);
      counted = after;
      named = a.named;
      few = a.few;
      going = λ ys rest z e. elim (split_push a.popped c.args.met.now.id ys rest z e) as (λ _. ¬ IsSettledAt c.args.search.tie h s names ys z) [
        | inl k ↦ λ st. absurd (refuted (subst (λ l. IsSettledAt c.args.search.tie h s names l c.args.met.now.id) k.0 (subst (λ q. IsSettledAt c.args.search.tie h s names ys q) k.1 st)))
        | inr k ↦ a.going ys k.0 z k.1
      ];
    }

pub returns-clause-asked : goal.returns-clause-asked
returns-clause-asked g c = asks_answered _ _ _ _ _ _ c.in_ok-hand_on.ensures.asked

pub returns-in_err-hand_on-clause-asked : goal.returns-in_err-hand_on-clause-asked
returns-in_err-hand_on-clause-asked g c =
    let a = c.requires.admitted in
    let h = followed c.args.search.first_parent (g.S.Find.history c.args.graph.now.source) in
    rw (refusal_came c.from_residual.result _ c.from_residual.ensures.1) (asks_more _ _ _ _ _ _ (Some c.in_err-hand_on.field-0.0) (hand_refused (c.args.search.tie, None) h c.args.search.start a.popped c.args.met.now.id a.at.walk a.next a.at.has) c.in_err-hand_on.ensures.asked)

pub hand_on-requires-clause-has : goal.hand_on-requires-clause-has
hand_on-requires-clause-has g c =
    let a = c.requires.admitted in
    next_there (c.args.search.tie, None) (followed c.args.search.first_parent (g.S.Find.history c.args.graph.now.source)) c.args.search.start a.popped c.args.met.now.id a.at.walk a.next a.at.has

pub hand_on-requires-clause-known : goal.hand_on-requires-clause-known
hand_on-requires-clause-known g c = λ q held.
    let a = c.requires.admitted in
    met_there (followed c.args.search.first_parent (g.S.Find.history c.args.graph.now.source)) c.args.search.start a.popped q a.at.has (sym (a.at.marked.met q) ∙ held)

pub returns-in_err-hand_on-clause-fault : goal.returns-in_err-hand_on-clause-fault
returns-in_err-hand_on-clause-fault g c =
    let a = c.requires.admitted in
    let h = followed c.args.search.first_parent (g.S.Find.history c.args.graph.now.source) in
    rw (err_came c.from_residual.result _ c.from_residual.ensures.1) (fault_stands (c.args.search.tie, None) h c.args.search.start c.args.met.now.id a.popped (held_at c.args.graph.now) (held_at c.hand_on.new.graph) a.at.has a.at.walk a.next a.at.marked.met
    c.in_err-hand_on.field-0.0 c.in_err-hand_on.ensures.asked.cause c.in_err-hand_on.ensures.fault)
