use Rattle.std.proofs.Common.{ℕ, Some, ◌≡◌, ◌≤◌, ◌<◌, slice_index, ◌+◌, ◌-◌, ◌∙◌, sym, ap, subst, refl, true, [], ◌∷◌, ◌++◌, length, get_or, arith, inl, inr}
use Rattle.std.specs.Int.{bit_at}
use Rattle.std.proofs.lemmas.List.{get_or_read, length_push}
use Rattle.gix_base.specs.declared.hash.ObjectId.{ObjectId}
use Rattle.gix_revwalk.specs.Followed.{followed}
use Rattle.gix_revwalk.specs.Graph.{held_at, held_ids}
use Rattle.gix_describe.specs.Trace.{has_mark, late_of}
use Rattle.gix_describe.specs.WalkState.{others, IsCompletedAt}
use Rattle.gix_describe.specs.Handing.{AreRanked, bit}
use Rattle.gix_revwalk.proofs.Members.{one_of-left}
use Rattle.gix_describe.proofs.WalkSteps.{marked_more_by, queue_more, goes_more, hand_refused, next_there, met_there, many, left_marked, late_le, bit_true, late_next, split_push}
use Rattle.gix_describe.specs.Handing.{bits, queued_ids}
use Rattle.gix_describe.proofs.Lacking.{all_have, has_bit, none_lacks, noted_more}
use Rattle.gix_describe.proofs.Tallies.{counts_left, tally_from}
use Rattle.gix_revwalk.specs.Noted.{noted_at}
use Rattle.gix_describe.proofs.Asked.{asks_more, asks_answered, err_came, refusal_came}
use Rattle.gix_revwalk.specs.History.{entry_at, parents_in}
use Rattle.gix_describe.specs.Order.{met_after, again}
use Rattle.gix_describe.proofs.Ranking.{met_list_push, again_kept}
use Rattle.gix_describe.proofs.Standing.{fault_stands}
use Rattle.gix_describe.proofs.describe.walk.Walk.pass_for.Goals as goal

inside_of : {place m n : ℕ} → place < n → m ≡ n → place < m
inside_of l e = omega (arith, l, e)

pub returns-then-self-clause-asked : goal.returns-then-self-clause-asked
returns-then-self-clause-asked g c =
    let a = c.requires.taken.1 in
    let h = followed c.args.search.first_parent (g.S.Find.history c.args.graph.now.source) in
    let len : length a.popped ≡ 4294967295 = sym a.at.seen ∙ c.if-self.true in
    record { same_history = refl; count = refl; cause = many (c.args.search.tie, Some c.requires.taken.0) h c.args.search.start a.popped c.args.met.now.id 4294967295 a.at.walk a.next a.at.has len }

pub returns-then-index-eq0-clause-passed : goal.returns-then-index-eq0-clause-passed
returns-then-index-eq0-clause-passed g c = λ cut a.
    let h = followed c.args.search.first_parent (g.S.Find.history c.args.graph.now.source) in
    let s = c.args.search.start in
    let x = c.args.met.now.id in
    let t = get_or c.args.self.now.candidates.items c.args.place s in
    let none : slice_index c.args.self.now.lacking.items c.args.place ≡ 0 = sym (get_or_read c.args.self.now.lacking.items _ _ (inside_of a.inside a.tallied.each) c.index.ensures 0) ∙ c.if-index-eq0.true in
    let sums = a.tallied.is c.args.place a.inside in
    let one : bit_at (bits (held_at c.args.graph.now x)) c.args.place ≡ 1 = has_bit _ _ (omega (arith, sums, none)) in
    let own : has_mark h t a.popped x ≡ true = bit_true _ (sym (a.at.marked.marks c.args.place a.inside x) ∙ one) in
    let pushed : length (a.popped ++ x ∷ []) ≡ length a.popped + 1 = length_push a.popped x in
    let others_marked : (q : ObjectId) → others h s a.popped x q ≡ true → has_mark h t a.popped q ≡ true =
    λ q k. bit_true _ (sym (a.at.marked.marks c.args.place a.inside q) ∙ has_bit _ _ (none_lacks (λ z. 1 - bit_at (bits (held_at c.args.graph.now z)) c.args.place) (queued_ids c.args.self.now.queue) (omega (arith, sums, none)) q (a.at.queue.ids q ∙ k))) in
    record {
      popped = a.popped ++ x ∷ [];
      walk = goes_more (c.args.search.tie, Some cut) h s a.popped x a.at.walk a.next;
      has = a.has;
      own = one_of-left a.popped (x ∷ []) t a.own;
      count_is = let more = late_next h t a.popped x true own 0 refl in let is : c.args.count ≡ length (late_of h t a.popped) = a.count_is in omega (arith, more);
      seen_is = let seen : c.args.self.now.seen ≡ length a.popped = a.at.seen in omega arith;
      left = λ d o. left_marked h s a.popped x t others_marked own d o;
      past = let low : length cut.0 ≤ length a.popped = a.past in omega arith;
      before = λ ys rest z y e low. elim (split_push a.popped x ys (y ∷ rest) z e) as (λ _. ¬ IsCompletedAt h s t ys z) [
        | inl k ↦ absurd (let f : y ∷ rest ≡ [] = k.2 in cc)
        | inr k ↦ a.since ys k.0 z k.1 low
      ];
      stop = inl (record { ys = a.popped; x = x; is = refl; in_ys = a.own; completed = record { own = own; left = others_marked } });
      held_is = record { ys = a.popped; x = x; is = refl; met = a.at.marked.met };
    }

pub overflow_add-result : goal.overflow_add-result
overflow_add-result g c =
    let a = c.requires.taken.1 in
    let h = followed c.args.search.first_parent (g.S.Find.history c.args.graph.now.source) in
    let t = get_or c.args.self.now.candidates.items c.args.place c.args.search.start in
    let le : length (late_of h t a.popped) ≤ length a.popped = late_le h _ a.popped in
    let is : c.args.count ≡ length (late_of h t a.popped) = a.count_is in
    let seen : c.args.self.now.seen ≡ length a.popped = a.at.seen in
    omega arith

pub returns-clause-passed : goal.returns-clause-passed
returns-clause-passed g c = λ cut a.
    let h = followed c.args.search.first_parent (g.S.Find.history c.args.graph.now.source) in
    let s = c.args.search.start in
    let x = c.args.met.now.id in
    let tie = c.args.search.tie in
    let w = c.args.self.now in
    let t = get_or w.candidates.items c.args.place s in
    let on = rw c.marks_of-marks.ensures at c.in_ok-hand_on.ensures.handed in
    let pushed : length (a.popped ++ x ∷ []) ≡ length a.popped + 1 = length_push a.popped x in
    let mark : bit_at c.marks_of-marks.result c.args.place ≡ bit (has_mark h t a.popped x) = ap (λ m. bit_at m c.args.place) c.marks_of-marks.ensures ∙ a.at.marked.marks c.args.place a.inside x in
    let refuted : IsCompletedAt h s t a.popped x → ⊥ = λ st.
    let own : bit_at (bits (held_at c.args.graph.now x)) c.args.place ≡ 1 = a.at.marked.marks c.args.place a.inside x ∙ ap bit st.own in
    let rest = all_have (λ z. 1 - bit_at (bits (held_at c.args.graph.now z)) c.args.place) (queued_ids w.queue)
    (λ q k. ap (λ b. 1 - b) (a.at.marked.marks c.args.place a.inside q ∙ ap bit (st.left q (sym (a.at.queue.ids q) ∙ k)))) in
    let sums = a.tallied.is c.args.place a.inside in
    c.if-index-eq0.false (get_or_read w.lacking.items _ _ (inside_of a.inside a.tallied.each) c.index.ensures 0 ∙ omega (arith, own, rest, sums)) in
    let left = counts_left h s a.popped w.candidates.items x (held_at c.args.graph.now) (noted_at c.args.graph.now) w.queue c.marks_of-marks.result w.lacking.items c.leave.new.lacking.items a.at.queue a.at.marked a.at.noted c.marks_of-marks.ensures
    (λ j below. a.tallied.is j (let each : length w.lacking.items ≡ length w.candidates.items = a.tallied.each in omega arith)) c.leave.ensures.len c.leave.ensures.left in
    let counts = c.in_ok-hand_on.ensures.counts left in
    record {
      popped = a.popped ++ x ∷ [];
      at = record {
        walk = goes_more (c.args.search.tie, Some cut) h s a.popped x a.at.walk a.next;
        has = a.has;
        queue = queue_more (c.args.search.tie, Some cut) h s a.popped w.candidates.items x (held_at c.args.graph.now) (held_at c.hand_on.new.graph) w.queue c.hand_on.new.queue a.at.walk a.next a.at.marked a.at.queue on;
        numbered = c.in_ok-hand_on.ensures.numbered a.at.numbered;
        met = c.in_ok-hand_on.ensures.ids ∙ ap (λ l. met_after h l (parents_in (entry_at h x))) a.at.met ∙ sym (met_list_push h s a.popped x);
        ranked = subst (λ o. AreRanked tie o (held_ids c.hand_on.new.graph) c.hand_on.new.queue) (again_kept tie h s a.popped x cut a.past) (c.in_ok-hand_on.ensures.ranked (again tie h s a.popped (Some cut)) a.at.ranked);
        noted = λ q. c.in_ok-hand_on.ensures.noted q ∙ noted_more a.popped x q _ (a.at.noted q);
        marked = marked_more_by (c.args.search.tie, Some cut) h s a.popped w.candidates.items x (held_at c.args.graph.now) (held_at c.hand_on.new.graph) w.queue c.hand_on.new.queue a.at.walk a.next a.at.marked a.at.queue on;
        seen = let seen : w.seen ≡ length a.popped = a.at.seen in omega arith;
      };
      tallied = tally_from (held_at c.hand_on.new.graph) (noted_at c.hand_on.new.graph) _ counts (c.hand_on.ensures.places ∙ c.leave.ensures.len ∙ a.tallied.each);
      has = a.has;
      inside = a.inside;
      few = a.few;
      own = one_of-left a.popped (x ∷ []) t a.own;
      count_is = let more = late_next h t a.popped x (has_mark h t a.popped x) refl (1 - c.bit_of-late.result) (ap (λ b. 1 - b) (c.bit_of-late.ensures ∙ mark)) in let is : c.args.count ≡ length (late_of h t a.popped) = a.count_is in omega (arith, more);
      past = let low : length cut.0 ≤ length a.popped = a.past in inl (omega (arith, pushed));
      since = λ ys rest z e low. elim (split_push a.popped x ys rest z e) as (λ _. ¬ IsCompletedAt h s t ys z) [
        | inl k ↦ λ st. absurd (refuted (subst (λ l. IsCompletedAt h s t l x) k.0 (subst (λ q. IsCompletedAt h s t ys q) k.1 st)))
        | inr k ↦ a.since ys k.0 z k.1 low
      ];
    }

pub returns-clause-asked : goal.returns-clause-asked
returns-clause-asked g c = asks_answered _ _ _ _ _ _ c.in_ok-hand_on.ensures.asked

pub returns-in_err-hand_on-clause-asked : goal.returns-in_err-hand_on-clause-asked
returns-in_err-hand_on-clause-asked g c =
    let a = c.requires.taken.1 in
    let h = followed c.args.search.first_parent (g.S.Find.history c.args.graph.now.source) in
    rw (refusal_came c.from_residual.result _ c.from_residual.ensures.1) (asks_more _ _ _ _ _ _ (Some c.in_err-hand_on.field-0.0) (hand_refused (c.args.search.tie, Some c.requires.taken.0) h c.args.search.start a.popped c.args.met.now.id a.at.walk a.next a.at.has) c.in_err-hand_on.ensures.asked)

pub hand_on-requires-clause-has : goal.hand_on-requires-clause-has
hand_on-requires-clause-has g c =
    let a = c.requires.taken.1 in
    next_there (c.args.search.tie, Some c.requires.taken.0) (followed c.args.search.first_parent (g.S.Find.history c.args.graph.now.source)) c.args.search.start a.popped c.args.met.now.id a.at.walk a.next a.at.has

pub hand_on-requires-clause-known : goal.hand_on-requires-clause-known
hand_on-requires-clause-known g c = λ q held.
    let a = c.requires.taken.1 in
    met_there (followed c.args.search.first_parent (g.S.Find.history c.args.graph.now.source)) c.args.search.start a.popped q a.at.has (sym (a.at.marked.met q) ∙ held)

pub returns-in_err-hand_on-clause-fault : goal.returns-in_err-hand_on-clause-fault
returns-in_err-hand_on-clause-fault g c =
    let a = c.requires.taken.1 in
    let h = followed c.args.search.first_parent (g.S.Find.history c.args.graph.now.source) in
    rw (err_came c.from_residual.result _ c.from_residual.ensures.1) (fault_stands (c.args.search.tie, Some c.requires.taken.0) h c.args.search.start c.args.met.now.id a.popped (held_at c.args.graph.now) (held_at c.hand_on.new.graph) a.at.has a.at.walk a.next a.at.marked.met
    c.in_err-hand_on.field-0.0 c.in_err-hand_on.ensures.asked.cause c.in_err-hand_on.ensures.fault)
