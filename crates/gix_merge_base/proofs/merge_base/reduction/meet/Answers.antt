use Rattle.std.proofs.Common.{◌≡◌, ◌<◌, ◌≤◌, ◌+◌, ℕ, refl, sym, ap, subst, ◌∙◌, ◌∷◌, inr, map, arith}
use Rattle.std.proofs.lemmas.List.Sorted.{list_any-IsPermutation}
use Rattle.gix_revwalk.specs.History.{generation_of, same_id, is_one_of}
use Rattle.gix_revwalk.specs.Graph.{held_len}
use Rattle.gix_revwalk.specs.Number.{place_in}
use Rattle.gix_revwalk.proofs.GraphAfters.{graph_as}
use Rattle.gix_merge_base.specs.PaintQueue.{marks_at, queued_ids, ids_at, id_at}
use Rattle.gix_merge_base.specs.ReduceSteps.{AreMetBefore}
use Rattle.gix_merge_base.specs.declared.merge_base.gen_then_time.GenThenTime.{GenThenTime}
use Rattle.gix_merge_base.proofs.AfterCalls.{after_none, after_more, after_step}
use Rattle.gix_merge_base.proofs.Fronts.{queued_popped, queued_popped_over}
use Rattle.gix_merge_base.proofs.Numbered.{ids-popped, held-permutation}
use Rattle.gix_merge_base.proofs.QueueKeys.{key-popped}
use Rattle.gix_merge_base.proofs.Reduction.{reduce_goes, reduce_cuts, reduce_permuted, fewer_cut, fewer_left, left_to_meet}
use Rattle.gix_merge_base.proofs.Unmet.{unstale_alike, met_since, numbers_held, numbers_ids, order_grown}
use Rattle.gix_revwalk.proofs.Members.{one_of-head}
use Rattle.gix_merge_base.proofs.Loads.{loads_same, loads_then, loads_parents, reducing_below}
use Rattle.gix_merge_base.proofs.merge_base.reduction.meet.Goals as goal

less : (a b d : ℕ) → a ≡ b → b + 1 ≤ d → a < d
less a b d e k = omega arith

pub left_from-left-requires-clause-order : goal.left_from-left-requires-clause-order
left_from-left-requires-clause-order g c = rw (c.deref.ensures.value, c.loop-key.invariant.after.graph.same_history) c.loop-key.invariant.order

pub left_from-left-requires-clause-before : goal.left_from-left-requires-clause-before
left_from-left-requires-clause-before g c = rw c.deref.ensures.value c.loop-key.invariant.before

pub hand_parents-requires-clause-number : goal.hand_parents-requires-clause-number
hand_parents-requires-clause-number g c = (held-permutation (λ p. place_in p.1 < held_len c.loop-key.graph) c.loop-key.walk.front.queue _ c.in-Some.ensures.taken c.loop-key.invariant.queued.held).0

pub hand_parents-requires-clause-queued : goal.hand_parents-requires-clause-queued
hand_parents-requires-clause-queued g c =
    queued_popped_over (g.S.Find.history c.args.graph.now.source) _ c.loop-key.graph c.loop-key.walk.front _ c.in-Some.key c.in-Some.number c.loop-key.invariant.after.graph.same_history c.in-Some.ensures.taken c.loop-key.invariant.queued

pub loop-key-init : goal.loop-key-init
loop-key-init g c =
    let order = c.in_ok-order.ensures in
    record {
      at = c.requires.begun;
      left = c.requires.left;
      order = order.order;
      ids = λ q. list_any-IsPermutation (same_id q) _ _ order.ids;
      before = λ k d low high. absurd (omega arith);
      queued = c.requires.queued;
      loads = loads_same _ _ refl;
      after = after_none _;
    }

pub returns-then-walk-le1-clause-met : goal.returns-then-walk-le1-clause-met
returns-then-walk-le1-clause-met g c =
    let few = c.if-walk-le1.true in
    let count = c.loop-key.invariant.left.unstale in
    inr (queued_ids c.loop-key.graph c.loop-key.walk.front.queue, c.loop-key.invariant.at, unstale_alike (marks_at c.loop-key.graph) (ids_at c.args.graph.now c.args.numbers.now) (omega arith))

pub loop-key-smaller-then-key-left : goal.loop-key-smaller-then-key-left
loop-key-smaller-then-key-left g c =
    let graph = c.loop-key.graph in
    let m = marks_at graph in
    let id = id_at graph (place_in c.in-Some.number) in
    let perm = ids-popped graph graph refl c.in-Some.key c.in-Some.number c.loop-key.walk.front.queue c.pop.new.self c.in-Some.ensures.taken in
    less _ _ _ refl (fewer_cut (g.S.Find.history graph.source) m id (queued_ids graph c.loop-key.walk.front.queue) (queued_ids graph c.pop.new.self) perm)

pub loop-key-preserved-then-key-left : goal.loop-key-preserved-then-key-left
loop-key-preserved-then-key-left g c =
    let h = g.S.Find.history c.args.graph.now.source in
    let same = c.loop-key.invariant.after.graph.same_history in
    let graph = c.loop-key.graph in
    let ids = ids_at c.args.graph.now c.args.numbers.now in
    let m = marks_at graph in
    let id = id_at graph (place_in c.in-Some.number) in
    let rs = c.pop.new.self in
    let perm = ids-popped graph graph refl c.in-Some.key c.in-Some.number c.loop-key.walk.front.queue rs c.in-Some.ensures.taken in
    let at = reduce_permuted h ids m (queued_ids graph c.loop-key.walk.front.queue) (id ∷ queued_ids graph rs) perm c.loop-key.invariant.at in
    let key = key-popped h graph c.in-Some.key c.in-Some.number c.loop-key.walk.front.queue rs c.in-Some.ensures.taken c.loop-key.invariant.queued.keyed in
    let generation : c.in-Some.key.generation ≡ generation_of h id = ap (λ (z : GenThenTime). z.generation) key in
    let left = rw (c.deref.ensures.value, same) at c.left_from-left.ensures in
    let low = c.if-key-left.true in
    record {
      at = reduce_cuts h ids id m (queued_ids graph rs) at (λ r k out. let l = left.least r (sym (c.loop-key.invariant.ids r) ∙ k) out in omega arith);
      left = c.loop-key.invariant.left;
      order = c.loop-key.invariant.order;
      ids = c.loop-key.invariant.ids;
      before = left.before;
      queued = queued_popped h graph c.loop-key.walk.front _ c.in-Some.key c.in-Some.number c.in-Some.ensures.taken c.loop-key.invariant.queued;
      loads = c.loop-key.invariant.loads;
      after = c.loop-key.invariant.after;
    }

pub loop-key-preserved : goal.loop-key-preserved
loop-key-preserved g c =
    let h = g.S.Find.history c.args.graph.now.source in
    let same = c.loop-key.invariant.after.graph.same_history in
    let graph = c.loop-key.graph in
    let ids = ids_at c.args.graph.now c.args.numbers.now in
    let m = marks_at graph in
    let id = id_at graph (place_in c.in-Some.number) in
    let rs = c.pop.new.self in
    let new = c.hand_parents.new.graph in
    let perm = ids-popped graph graph refl c.in-Some.key c.in-Some.number c.loop-key.walk.front.queue rs c.in-Some.ensures.taken in
    let at = reduce_permuted h ids m (queued_ids graph c.loop-key.walk.front.queue) (id ∷ queued_ids graph rs) perm c.loop-key.invariant.at in
    let did = rw same at c.in_default-hand_parents.ensures.hands in
    let keeps = rw same at c.in_default-hand_parents.ensures.keeps in
    let order = c.in_ok-order.order.items in
    let left = rw (c.deref.ensures.value, same) at c.left_from-left.ensures in
    let listed = c.in_default-hand_parents.ensures.meets.numbers (map (λ p. p.1) order) (numbers_held h graph order c.loop-key.invariant.order) in
    let grown : queued_ids new order ≡ queued_ids graph order = sym (numbers_ids new order) ∙ listed.1 ∙ numbers_ids graph order in
    record {
      at = reduce_goes h ids id m (marks_at new) (queued_ids graph rs) (queued_ids new c.hand_parents.new.self.front.queue) at did;
      left = keeps.left refl ids c.loop-key.invariant.left;
      order = order_grown h graph new order c.loop-key.invariant.order listed.0 grown;
      ids = λ q. c.loop-key.invariant.ids q ∙ ap (λ l. is_one_of l q) (sym grown);
      before = subst (λ l. AreMetBefore (marks_at new) l c.left_from-left.result.place) (sym grown) (met_since m (marks_at new) (queued_ids graph order) _ did.more left.before);
      queued = keeps.queued (queued_popped h graph c.loop-key.walk.front _ c.in-Some.key c.in-Some.number c.in-Some.ensures.taken c.loop-key.invariant.queued);
      loads = loads_then c.loop-key.invariant.loads (loads_parents _ _ id (reducing_below h ids m (id ∷ queued_ids graph rs) at id (one_of-head id (queued_ids graph rs))) (rw same at c.hand_parents.ensures.meets.more));
      after = after_more _ _ _ _ c.loop-key.invariant.after (after_step _ _ c.in_default-hand_parents.ensures.meets.graph);
    }

pub loop-key-smaller : goal.loop-key-smaller
loop-key-smaller g c =
    let h = g.S.Find.history c.args.graph.now.source in
    let same = c.loop-key.invariant.after.graph.same_history in
    let graph = c.loop-key.graph in
    let ids = ids_at c.args.graph.now c.args.numbers.now in
    let m = marks_at graph in
    let id = id_at graph (place_in c.in-Some.number) in
    let rs = c.pop.new.self in
    let new = c.hand_parents.new.graph in
    let perm = ids-popped graph graph refl c.in-Some.key c.in-Some.number c.loop-key.walk.front.queue rs c.in-Some.ensures.taken in
    let at = reduce_permuted h ids m (queued_ids graph c.loop-key.walk.front.queue) (id ∷ queued_ids graph rs) perm c.loop-key.invariant.at in
    let did = rw same at c.in_default-hand_parents.ensures.hands in
    let at2 = reduce_goes h ids id m (marks_at new) (queued_ids graph rs) (queued_ids new c.hand_parents.new.self.front.queue) at did in
    let fewer = fewer_left h ids m (marks_at new) id (queued_ids graph c.loop-key.walk.front.queue) (queued_ids graph rs) (queued_ids new c.hand_parents.new.self.front.queue) perm did at2 in
    less _ _ _ (ap (λ z. left_to_meet z (marks_at new) (queued_ids new c.hand_parents.new.self.front.queue)) (c.hand_parents.ensures.meets.graph.same_history ∙ same))
    (subst (λ z. left_to_meet h (marks_at new) (queued_ids new c.hand_parents.new.self.front.queue) + 1 ≤ left_to_meet z m (queued_ids graph c.loop-key.walk.front.queue)) (sym same) fewer)

pub returns-in-Err-clause-after : goal.returns-in-Err-clause-after
returns-in-Err-clause-after g c =
    after_more _ _ _ _ c.loop-key.invariant.after record { graph = graph_as _ _ _ _ (sym c.parent_refused.ensures.same) c.in-Err.ensures.meets.graph; cause = c.parent_refused.ensures.cause }

pub returns-in-Err-clause-loads : goal.returns-in-Err-clause-loads
returns-in-Err-clause-loads g c =
    let h = g.S.Find.history c.args.graph.now.source in
    let same = c.loop-key.invariant.after.graph.same_history in
    let graph = c.loop-key.graph in
    let ids = ids_at c.args.graph.now c.args.numbers.now in
    let m = marks_at graph in
    let id = id_at graph (place_in c.in-Some.number) in
    let rs = c.pop.new.self in
    let perm = ids-popped graph graph refl c.in-Some.key c.in-Some.number c.loop-key.walk.front.queue rs c.in-Some.ensures.taken in
    let at = reduce_permuted h ids m (queued_ids graph c.loop-key.walk.front.queue) (id ∷ queued_ids graph rs) perm c.loop-key.invariant.at in
    loads_then c.loop-key.invariant.loads (loads_parents _ _ id (reducing_below h ids m (id ∷ queued_ids graph rs) at id (one_of-head id (queued_ids graph rs))) (rw same at c.hand_parents.ensures.meets.more))

pub returns-then-walk-le1-clause-loads : goal.returns-then-walk-le1-clause-loads
returns-then-walk-le1-clause-loads g c = c.loop-key.invariant.loads

pub returns-clause-loads : goal.returns-clause-loads
returns-clause-loads g c = c.loop-key.invariant.loads

pub returns-in_err-order-clause-loads : goal.returns-in_err-order-clause-loads
returns-in_err-order-clause-loads g c = loads_same _ _ refl
