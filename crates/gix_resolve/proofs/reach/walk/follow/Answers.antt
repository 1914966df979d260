use Rattle.std.below.core.proofs.iter.Serving.{as_err}
use Rattle.std.proofs.Common.{◌≡◌, ℕ, Ok, refl, sym, ap, subst, ◌∙◌, ◌++◌, ◌∷◌, length, rules}
use Rattle.std.proofs.Math.Path.{fun_ext}
use Rattle.std.specs.List.Sorted.{IsPermutation}
use Rattle.std.proofs.lemmas.List.{length-map}
use Rattle.gix_revwalk.specs.Faults.{count_after, is_source_fault}
use Rattle.gix_revwalk.specs.History.{parents_in, entry_at}
use Rattle.gix_revwalk.specs.Number.{place_in}
use Rattle.gix_revwalk.specs.declared.numbers.Number.{Number}
use Rattle.gix_merge_base.specs.Marks.{marks_of}
use Rattle.gix_merge_base.specs.PaintQueue.{marks_at, queued_ids, id_at}
use Rattle.gix_merge_base.proofs.Numbered.{id-same}
use Rattle.gix_merge_base.proofs.QueueKeys.{kept-same}
use Rattle.gix_resolve.specs.ReachSides.{Gives, Walked, Takes, IsOver, Sees}
use Rattle.gix_resolve.specs.ReachWalk.{AreMet, IsRight}
use Rattle.gix_resolve.proofs.ListAfter.{after_same, after_then}
use Rattle.gix_resolve.proofs.ReachGives.{gives_as}
use Rattle.gix_resolve.proofs.ReachSides.{walked_next, sees}
use Rattle.gix_resolve.proofs.ReachSteps.{fewer, smaller}
use Rattle.gix_resolve.proofs.ListTaken.{only_same, only_then}
use Rattle.gix_resolve.proofs.ReachTaken.{taken_next}
use Rattle.gix_resolve.proofs.reach.walk.follow.Goals as goal

pub loop-number-preserved : goal.loop-number-preserved
loop-number-preserved g c =
    let h = g.S.Find.history c.args.graph.now.source in
    let old = c.loop-number.graph in
    let mid = c.next.new.graph in
    let new = c.hand_parents.new.graph in
    let same = c.loop-number.invariant.after.same_history in
    let chain : g.S.Find.history mid.source ≡ h = ap g.S.Find.history c.next.ensures.source ∙ same in
    let k = place_in c.in-Some.number in
    let id = id_at mid k in
    let is : id_at old k ≡ id = sym (id-same old mid c.next.ensures.ids k) in
    let q = queued_ids old c.loop-number.walk.front in
    let q1 = queued_ids mid c.next.new.walk.front in
    let q2 = queued_ids new c.hand_parents.new.walk.front in
    let took = rw same at c.in-Some.ensures.taken in
    let taken : Takes h c.args.both id (marks_at old) q c.loop-number.walk.least q1 c.next.new.walk.least =
    subst (λ b. Takes h b id (marks_at old) q c.loop-number.walk.least q1 c.next.new.walk.least) c.loop-number.invariant.both
    (subst (λ i. Takes h c.loop-number.walk.both i (marks_at old) q c.loop-number.walk.least q1 c.next.new.walk.least) is took) in
    let marks : marks_of c.in-Some.marks ≡ marks_at mid id = c.in-Some.ensures.had ∙ ap (marks_at old) is ∙ sym (c.next.ensures.marks id) in
    let gave = rw chain at c.in_ok-hand_parents.ensures.handed in
    let handed : Gives h c.args.both (marks_at mid id) (parents_in (entry_at h id)) (marks_at mid) q1 (marks_at new) q2 =
    gives_as (c.next.ensures.both ∙ c.loop-number.invariant.both)
    (subst (λ w. Gives h c.next.new.walk.both w (parents_in (entry_at h id)) (marks_at mid) q1 (marks_at new) q2) marks gave) in
    record {
      right = subst (λ z. IsRight z new c.hand_parents.new.walk) chain c.in_ok-hand_parents.ensures.right;
      walked = subst (Walked h c.args.first.now c.args.second.now c.args.both (marks_at new) q2) (sym c.in_ok-hand_parents.ensures.sides.1)
          (walked_next h c.args.first.now c.args.second.now c.args.both (marks_at old) (marks_at mid) (marks_at new) id q q1 q2 c.loop-number.walk.least c.next.new.walk.least c.loop-number.invariant.walked taken c.next.ensures.marks handed);
      taken = taken_next h (c.args.first.now ++ c.args.second.now) q q1 id c.args.graph.now old mid new c.loop-number.invariant.walked.from taken.queue c.loop-number.invariant.taken c.next.ensures.ids (rw chain at c.hand_parents.ensures.taken);
      both = c.in_ok-hand_parents.ensures.sides.0 ∙ c.next.ensures.both ∙ c.loop-number.invariant.both;
      after = after_then c.args.graph.now mid new (Ok tt) (after_then c.args.graph.now old mid (Ok tt) c.loop-number.invariant.after (after_same old mid (Ok tt) refl c.next.ensures.source c.next.ensures.ids)) c.in_ok-hand_parents.ensures.after;
    }

pub loop-number-smaller : goal.loop-number-smaller
loop-number-smaller g c =
    let h = g.S.Find.history c.args.graph.now.source in
    let old = c.loop-number.graph in
    let mid = c.next.new.graph in
    let new = c.hand_parents.new.graph in
    let same = c.loop-number.invariant.after.same_history in
    let chain : g.S.Find.history mid.source ≡ h = ap g.S.Find.history c.next.ensures.source ∙ same in
    let k = place_in c.in-Some.number in
    let id = id_at mid k in
    let is : id_at old k ≡ id = sym (id-same old mid c.next.ensures.ids k) in
    let q = queued_ids old c.loop-number.walk.front in
    let q1 = queued_ids mid c.next.new.walk.front in
    let q2 = queued_ids new c.hand_parents.new.walk.front in
    let took = rw same at c.in-Some.ensures.taken in
    let taken : Takes h c.args.both id (marks_at old) q c.loop-number.walk.least q1 c.next.new.walk.least =
    subst (λ b. Takes h b id (marks_at old) q c.loop-number.walk.least q1 c.next.new.walk.least) c.loop-number.invariant.both
    (subst (λ i. Takes h c.loop-number.walk.both i (marks_at old) q c.loop-number.walk.least q1 c.next.new.walk.least) is took) in
    let marks : marks_of c.in-Some.marks ≡ marks_at mid id = c.in-Some.ensures.had ∙ ap (marks_at old) is ∙ sym (c.next.ensures.marks id) in
    let gave = rw chain at c.in_ok-hand_parents.ensures.handed in
    let handed : Gives h c.args.both (marks_at mid id) (parents_in (entry_at h id)) (marks_at mid) q1 (marks_at new) q2 =
    gives_as (c.next.ensures.both ∙ c.loop-number.invariant.both)
    (subst (λ w. Gives h c.next.new.walk.both w (parents_in (entry_at h id)) (marks_at mid) q1 (marks_at new) q2) marks gave) in
    let walked = walked_next h c.args.first.now c.args.second.now c.args.both (marks_at old) (marks_at mid) (marks_at new) id q q1 q2 c.loop-number.walk.least c.next.new.walk.least c.loop-number.invariant.walked taken c.next.ensures.marks handed in
    smaller h (g.S.Find.history old.source) (g.S.Find.history new.source) (marks_at old) (marks_at new) (length c.loop-number.walk.front) (length c.hand_parents.new.walk.front) (length q) (length q2)
    same (c.in_ok-hand_parents.ensures.after.same_history ∙ chain)
    (sym (length-map c.loop-number.walk.front (λ (p : ℕ × Number). id_at old (place_in p.1)))) (sym (length-map c.hand_parents.new.walk.front (λ (p : ℕ × Number). id_at new (place_in p.1))))
    (fewer h (marks_at mid id) (parents_in (entry_at h id)) c.args.first.now c.args.second.now c.args.both (marks_at old) (marks_at mid) (marks_at new) id q q1 q2 c.next.new.walk.least c.next.ensures.marks taken.queue handed walked)

pub returns-in_err-hand_parents-clause-after : goal.returns-in_err-hand_parents-clause-after
returns-in_err-hand_parents-clause-after g c = record {
  same_history = c.hand_parents.ensures.after.same_history ∙ ap g.S.Find.history c.next.ensures.source ∙ c.loop-number.invariant.after.same_history;
  count = subst (λ (n : ℕ). g.S.Find.fault_count c.hand_parents.new.graph.source ≡ count_after (is_source_fault c.from_residual-in_err-hand_parents.result) n)
      (ap g.S.Find.fault_count c.next.ensures.source ∙ c.loop-number.invariant.after.count) (search rules);
  held = λ q k. c.hand_parents.ensures.after.held q (kept-same c.loop-number.graph c.next.new.graph c.next.ensures.ids q (c.loop-number.invariant.after.held q k));
}

pub returns-clause-sees : goal.returns-clause-sees
returns-clause-sees g c =
    let h = g.S.Find.history c.args.graph.now.source in
    let old = c.loop-number.graph in
    let mid = c.next.new.graph in
    let q = queued_ids old c.loop-number.walk.front in
    let ended = rw c.loop-number.invariant.after.same_history at (c.in_default.ensures.over refl) in
    let over : IsOver h c.args.both (marks_at old) q c.loop-number.walk.least = subst (λ b. IsOver h b (marks_at old) q c.loop-number.walk.least) c.loop-number.invariant.both ended in
    let marks : marks_at old ≡ marks_at mid = fun_ext (λ d. sym (c.next.ensures.marks d)) in
    subst (λ m. Sees h c.args.first.now c.args.second.now c.args.both m) marks
    (sees h c.args.first.now c.args.second.now c.args.both (marks_at old) q c.loop-number.walk.least c.loop-number.invariant.walked over)

pub returns-clause-after : goal.returns-clause-after
returns-clause-after g c = after_then c.args.graph.now c.loop-number.graph c.next.new.graph _ c.loop-number.invariant.after (after_same c.loop-number.graph c.next.new.graph _ refl c.next.ensures.source c.next.ensures.ids)

pub returns-clause-met : goal.returns-clause-met
returns-clause-met g c = subst (λ b. AreMet b c.next.new.graph c.next.new.walk.met.items) (c.next.ensures.both ∙ c.loop-number.invariant.both) c.next.ensures.marked

pub returns-in_err-hand_parents-clause-taken : goal.returns-in_err-hand_parents-clause-taken
returns-in_err-hand_parents-clause-taken g c =
    let h = g.S.Find.history c.args.graph.now.source in
    let old = c.loop-number.graph in
    let mid = c.next.new.graph in
    let same = c.loop-number.invariant.after.same_history in
    let chain : g.S.Find.history mid.source ≡ h = ap g.S.Find.history c.next.ensures.source ∙ same in
    let k = place_in c.in-Some.number in
    let id = id_at mid k in
    let is : id_at old k ≡ id = sym (id-same old mid c.next.ensures.ids k) in
    let q = queued_ids old c.loop-number.walk.front in
    let q1 = queued_ids mid c.next.new.walk.front in
    let took = subst (λ i. IsPermutation q (i ∷ q1)) is c.in-Some.ensures.taken.queue in
    taken_next h (c.args.first.now ++ c.args.second.now) q q1 id c.args.graph.now old mid c.hand_parents.new.graph c.loop-number.invariant.walked.from took c.loop-number.invariant.taken c.next.ensures.ids (rw chain at c.hand_parents.ensures.taken)

pub returns-clause-taken : goal.returns-clause-taken
returns-clause-taken g c = only_then _ c.args.graph.now c.loop-number.graph c.next.new.graph c.loop-number.invariant.taken (only_same _ c.loop-number.graph c.next.new.graph c.next.ensures.ids)

pub returns-in_err-walk-clause-sees : goal.returns-in_err-walk-clause-sees
returns-in_err-walk-clause-sees g c = rw (as_err c.from_residual.ensures.0).1 tt

pub returns-in_err-walk-clause-met : goal.returns-in_err-walk-clause-met
returns-in_err-walk-clause-met g c = rw (as_err c.from_residual.ensures.0).1 tt

pub returns-in_err-walk-clause-taken : goal.returns-in_err-walk-clause-taken
returns-in_err-walk-clause-taken g c = c.start.ensures.taken

pub returns-in_err-hand_parents-clause-sees : goal.returns-in_err-hand_parents-clause-sees
returns-in_err-hand_parents-clause-sees g c = rw (as_err c.from_residual-in_err-hand_parents.ensures.0).1 tt

pub returns-in_err-hand_parents-clause-met : goal.returns-in_err-hand_parents-clause-met
returns-in_err-hand_parents-clause-met g c = rw (as_err c.from_residual-in_err-hand_parents.ensures.0).1 tt
