use Rattle.std.proofs.Common.{◌≡◌, ◌<◌, ◌≤◌, ◌+◌, ℕ, refl, sym, ap, subst, ◌∙◌, ◌∷◌, [], inl, IsTrue, true, false, Ok, rules, arith}
use Rattle.gix_revwalk.specs.Graph.{Graphed, held_len}
use Rattle.gix_revwalk.specs.History.{generation_of, is_one_of}
use Rattle.gix_revwalk.specs.Number.{place_in}
use Rattle.gix_revwalk.specs.declared.numbers.Mark.{Mark}
use Rattle.gix_revwalk.specs.declared.numbers.Number.{Number}
use Rattle.gix_revwalk.proofs.GraphAfters.{graph_same, graph_as}
use Rattle.gix_merge_base.specs.Marks.{marks_of, met}
use Rattle.gix_merge_base.specs.PaintQueue.{marks_at, queued_ids, ids_at, id_at, key_in, AreHeld, Keyed, IsHeld}
use Rattle.gix_merge_base.specs.PaintSteps.{Hands}
use Rattle.gix_merge_base.specs.declared.merge_base.flags.Flags.{Flags}
use Rattle.gix_merge_base.specs.declared.merge_base.gen_then_time.GenThenTime.{GenThenTime}
use Rattle.gix_merge_base.proofs.AfterCalls.{after_more, after_step}
use Rattle.gix_merge_base.proofs.Ancestry.{climb_begins, climb_permuted, climb_goes, takes_more, climb_ends, all_below}
use Rattle.gix_merge_base.proofs.Fronts.{queued_popped, queued_popped_over}
use Rattle.gix_merge_base.proofs.KeyCmp.{takes_top}
use Rattle.gix_merge_base.proofs.Listed.{listed-same}
use Rattle.gix_merge_base.proofs.Numbered.{ids-popped, held-permutation, named-id}
use Rattle.gix_merge_base.proofs.QueueKeys.{key-popped, held-same, kept-same}
use Rattle.gix_merge_base.proofs.Reduction.{left_to_meet, fewer_handed}
use Rattle.gix_merge_base.proofs.merge_base.ancestry.meets.Goals as goal

-- the id of the target, where more is held
target_id : {S T : Type 0} (m n : Graphed S T) (k : Number) → ids_at n (k ∷ []) ≡ ids_at m (k ∷ []) → id_at n (place_in k) ≡ id_at m (place_in k)
target_id m n k same = cc

less : (a b d : ℕ) → a ≡ b → b + 1 ≤ d → a < d
less a b d e k = omega arith

pub returns-in_err-hand-clause-taken : goal.returns-in_err-hand-clause-taken
returns-in_err-hand-clause-taken g c q k = inl (sym (held-same c.args.graph.now c.hand.new.graph c.hand.ensures.same.ids q) ∙ k)

pub returns-in_err-hand-clause-after : goal.returns-in_err-hand-clause-after
returns-in_err-hand-clause-after g c = record {
  graph = record {
    same_history = ap g.S.Find.history c.hand.ensures.same.source;
    count = search rules;
    held = kept-same c.args.graph.now c.hand.new.graph c.hand.ensures.same.ids;
  };
  cause = search rules;
}

pub loop-alloc-init : goal.loop-alloc-init
loop-alloc-init g c =
    let h = g.S.Find.history c.args.graph.now.source in
    let old = c.args.graph.now in
    let new = c.hand.new.graph in
    let start = id_at old (place_in c.args.from) in
    let first = c.new-walk.result.front in
    let empty : queued_ids old first.queue ≡ [] = ap (queued_ids old) c.new-walk.ensures.queue in
    let did = c.in_ok-hand.ensures.hands c.requires.has in
    record {
      at = climb_begins h start (marks_at old) (marks_at new) (queued_ids new c.hand.new.self.queue) c.requires.unmarked c.requires.has
          (subst (λ l. Hands h met (start ∷ []) (marks_at old) l (marks_at new) (queued_ids new c.hand.new.self.queue)) empty did);
      target = listed-same old new c.hand.ensures.same.ids (c.args.target ∷ []) (c.requires.target, tt);
      queued = c.in_ok-hand.ensures.keeps.queued record { held = subst (AreHeld old) (sym c.new-walk.ensures.queue) tt; keyed = subst (Keyed h old) (sym c.new-walk.ensures.queue) tt };
      taken = λ q k. inl (sym (held-same old new c.hand.ensures.same.ids q) ∙ k);
      after = record { graph = graph_same old new (Ok tt) refl c.hand.ensures.same.source (kept-same old new c.hand.ensures.same.ids); cause = tt };
    }

pub mark_of-requires : goal.mark_of-requires
mark_of-requires g c = c.loop-alloc.invariant.target.0.0

pub returns-in_default-clause-exact : goal.returns-in_default-clause-exact
returns-in_default-clause-exact g c never =
    let h = g.S.Find.history c.args.graph.now.source in
    let graph = c.loop-alloc.graph in
    let is = target_id c.args.graph.now graph c.args.target c.loop-alloc.invariant.target.1 in
    let empty : queued_ids graph c.loop-alloc.walk.front.queue ≡ [] = ap (queued_ids graph) ((c.in_default.ensures.none).0 refl) in
    let out = sym (c.is_stale.ensures ∙ ap (λ (z : Mark Flags). (marks_of z.marks).stale) c.mark_of.ensures ∙ ap (λ q. (marks_at graph q).stale) is) ∙ c.loop-alloc-test.true in
    climb_ends h (id_at c.args.graph.now (place_in c.args.from)) (id_at c.args.graph.now (place_in c.args.target)) (marks_at graph) (queued_ids graph c.loop-alloc.walk.front.queue) c.loop-alloc.invariant.at
    (λ q k. let none : IsTrue (is_one_of [] q) = subst (λ l. IsTrue (is_one_of l q)) empty k in cc) out never

pub returns-in_default-clause-taken : goal.returns-in_default-clause-taken
returns-in_default-clause-taken g c = c.loop-alloc.invariant.taken

pub returns-in_default-clause-after : goal.returns-in_default-clause-after
returns-in_default-clause-after g c = record { graph = graph_as _ _ (Ok tt) (Ok false) refl c.loop-alloc.invariant.after.graph; cause = tt }

pub returns-then-key-least-clause-exact : goal.returns-then-key-least-clause-exact
returns-then-key-least-clause-exact g c never =
    let h = g.S.Find.history c.args.graph.now.source in
    let same = c.loop-alloc.invariant.after.graph.same_history in
    let graph = c.loop-alloc.graph in
    let target = id_at c.args.graph.now (place_in c.args.target) in
    let id = id_at graph (place_in c.in-Some.number) in
    let is = target_id c.args.graph.now graph c.args.target c.loop-alloc.invariant.target.1 in
    let out = sym (c.is_stale.ensures ∙ ap (λ (z : Mark Flags). (marks_of z.marks).stale) c.mark_of.ensures ∙ ap (λ q. (marks_at graph q).stale) is) ∙ c.loop-alloc-test.true in
    let agrees = c.value.ensures.agrees target (named-id c.args.graph.now (place_in c.args.target) c.requires.target) in
    let least : c.from-least.result.generation ≡ generation_of h target = ap (λ (z : GenThenTime). z.generation) (c.from-least.ensures ∙ ap key_in (sym agrees)) in
    let key = key-popped h graph c.in-Some.key c.in-Some.number c.loop-alloc.walk.front.queue c.pop.new.self c.in-Some.ensures.taken c.loop-alloc.invariant.queued.keyed in
    let generation : c.in-Some.key.generation ≡ generation_of h id = ap (λ (z : GenThenTime). z.generation) key in
    let low = c.if-key-least.true in
    let less : generation_of h id < generation_of h target = omega arith in
    let top = takes_top h graph c.in-Some.key c.in-Some.number c.loop-alloc.walk.front.queue c.pop.new.self c.in-Some.ensures.taken c.in-Some.ensures.greatest c.loop-alloc.invariant.queued.keyed in
    climb_ends h (id_at c.args.graph.now (place_in c.args.from)) target (marks_at graph) (queued_ids graph c.loop-alloc.walk.front.queue) c.loop-alloc.invariant.at
    (all_below h id target (queued_ids graph c.loop-alloc.walk.front.queue) less top) out never

pub returns-then-key-least-clause-taken : goal.returns-then-key-least-clause-taken
returns-then-key-least-clause-taken g c = c.loop-alloc.invariant.taken

pub returns-then-key-least-clause-after : goal.returns-then-key-least-clause-after
returns-then-key-least-clause-after g c = record { graph = graph_as _ _ (Ok tt) (Ok false) refl c.loop-alloc.invariant.after.graph; cause = tt }

pub hand_parents-requires-clause-number : goal.hand_parents-requires-clause-number
hand_parents-requires-clause-number g c = (held-permutation (λ p. place_in p.1 < held_len c.loop-alloc.graph) c.loop-alloc.walk.front.queue _ c.in-Some.ensures.taken c.loop-alloc.invariant.queued.held).0

pub hand_parents-requires-clause-queued : goal.hand_parents-requires-clause-queued
hand_parents-requires-clause-queued g c =
    queued_popped_over (g.S.Find.history c.args.graph.now.source) _ c.loop-alloc.graph c.loop-alloc.walk.front _ c.in-Some.key c.in-Some.number c.loop-alloc.invariant.after.graph.same_history c.in-Some.ensures.taken c.loop-alloc.invariant.queued

pub returns-in-Err-clause-taken : goal.returns-in-Err-clause-taken
returns-in-Err-clause-taken g c =
    let h = g.S.Find.history c.args.graph.now.source in
    let same = c.loop-alloc.invariant.after.graph.same_history in
    let graph = c.loop-alloc.graph in
    let start = id_at c.args.graph.now (place_in c.args.from) in
    let m = marks_at graph in
    let id = id_at graph (place_in c.in-Some.number) in
    let rs = c.pop.new.self in
    let new = c.hand_parents.new.graph in
    let perm = ids-popped graph graph refl c.in-Some.key c.in-Some.number c.loop-alloc.walk.front.queue rs c.in-Some.ensures.taken in
    let at = climb_permuted h start m (queued_ids graph c.loop-alloc.walk.front.queue) (id ∷ queued_ids graph rs) perm c.loop-alloc.invariant.at in
    let holds = rw same at c.hand_parents.ensures.meets.more in
    takes_more h start id m (queued_ids graph rs) at (IsHeld c.args.graph.now) (IsHeld graph) (IsHeld new) c.loop-alloc.invariant.taken holds

pub returns-in-Err-clause-after : goal.returns-in-Err-clause-after
returns-in-Err-clause-after g c =
    after_more _ _ _ _ c.loop-alloc.invariant.after record { graph = graph_as _ _ _ _ (sym c.parent_refused.ensures.same) c.in-Err.ensures.meets.graph; cause = c.parent_refused.ensures.cause }

pub loop-alloc-smaller : goal.loop-alloc-smaller
loop-alloc-smaller g c =
    let h = g.S.Find.history c.args.graph.now.source in
    let same = c.loop-alloc.invariant.after.graph.same_history in
    let graph = c.loop-alloc.graph in
    let start = id_at c.args.graph.now (place_in c.args.from) in
    let m = marks_at graph in
    let id = id_at graph (place_in c.in-Some.number) in
    let rs = c.pop.new.self in
    let new = c.hand_parents.new.graph in
    let perm = ids-popped graph graph refl c.in-Some.key c.in-Some.number c.loop-alloc.walk.front.queue rs c.in-Some.ensures.taken in
    let at = climb_permuted h start m (queued_ids graph c.loop-alloc.walk.front.queue) (id ∷ queued_ids graph rs) perm c.loop-alloc.invariant.at in
    let did = rw same at c.in_default-hand_parents.ensures.hands in
    let at2 = climb_goes h start id m (marks_at new) (queued_ids graph rs) (queued_ids new c.hand_parents.new.self.front.queue) at did in
    let fewer = fewer_handed h m (marks_at new) id (queued_ids graph c.loop-alloc.walk.front.queue) (queued_ids graph rs) (queued_ids new c.hand_parents.new.self.front.queue) perm did at2.has in
    less _ _ _ (ap (λ z. left_to_meet z (marks_at new) (queued_ids new c.hand_parents.new.self.front.queue)) (c.hand_parents.ensures.meets.graph.same_history ∙ same))
    (subst (λ z. left_to_meet h (marks_at new) (queued_ids new c.hand_parents.new.self.front.queue) + 1 ≤ left_to_meet z m (queued_ids graph c.loop-alloc.walk.front.queue)) (sym same) fewer)

pub loop-alloc-preserved : goal.loop-alloc-preserved
loop-alloc-preserved g c =
    let h = g.S.Find.history c.args.graph.now.source in
    let same = c.loop-alloc.invariant.after.graph.same_history in
    let graph = c.loop-alloc.graph in
    let start = id_at c.args.graph.now (place_in c.args.from) in
    let m = marks_at graph in
    let id = id_at graph (place_in c.in-Some.number) in
    let rs = c.pop.new.self in
    let new = c.hand_parents.new.graph in
    let perm = ids-popped graph graph refl c.in-Some.key c.in-Some.number c.loop-alloc.walk.front.queue rs c.in-Some.ensures.taken in
    let at = climb_permuted h start m (queued_ids graph c.loop-alloc.walk.front.queue) (id ∷ queued_ids graph rs) perm c.loop-alloc.invariant.at in
    let holds = rw same at c.hand_parents.ensures.meets.more in
    let did = rw same at c.in_default-hand_parents.ensures.hands in
    let keeps = rw same at c.in_default-hand_parents.ensures.keeps in
    let listed = c.in_default-hand_parents.ensures.meets.numbers (c.args.target ∷ []) c.loop-alloc.invariant.target.0 in
    record {
      at = climb_goes h start id m (marks_at new) (queued_ids graph rs) (queued_ids new c.hand_parents.new.self.front.queue) at did;
      target = (listed.0, listed.1 ∙ c.loop-alloc.invariant.target.1);
      queued = keeps.queued (queued_popped h graph c.loop-alloc.walk.front _ c.in-Some.key c.in-Some.number c.in-Some.ensures.taken c.loop-alloc.invariant.queued);
      taken = takes_more h start id m (queued_ids graph rs) at (IsHeld c.args.graph.now) (IsHeld graph) (IsHeld new) c.loop-alloc.invariant.taken holds;
      after = after_more _ _ _ _ c.loop-alloc.invariant.after (after_step _ _ c.in_default-hand_parents.ensures.meets.graph);
    }

pub returns-clause-exact : goal.returns-clause-exact
returns-clause-exact g c never =
    let graph = c.loop-alloc.graph in
    let is = target_id c.args.graph.now graph c.args.target c.loop-alloc.invariant.target.1 in
    let there = sym (c.is_stale.ensures ∙ ap (λ (z : Mark Flags). (marks_of z.marks).stale) c.mark_of.ensures ∙ ap (λ q. (marks_at graph q).stale) is) ∙ c.loop-alloc-test.false in
    let reached = c.loop-alloc.invariant.at.sound (id_at c.args.graph.now (place_in c.args.target)) there in
    (λ _. reached, λ _. refl)

pub returns-clause-reached : goal.returns-clause-reached
returns-clause-reached g c =
    let graph = c.loop-alloc.graph in
    let is = target_id c.args.graph.now graph c.args.target c.loop-alloc.invariant.target.1 in
    let there = sym (c.is_stale.ensures ∙ ap (λ (z : Mark Flags). (marks_of z.marks).stale) c.mark_of.ensures ∙ ap (λ q. (marks_at graph q).stale) is) ∙ c.loop-alloc-test.false in
    let reached = c.loop-alloc.invariant.at.sound (id_at c.args.graph.now (place_in c.args.target)) there in
    λ _. reached

pub returns-clause-taken : goal.returns-clause-taken
returns-clause-taken g c = c.loop-alloc.invariant.taken

pub returns-clause-after : goal.returns-clause-after
returns-clause-after g c = record { graph = graph_as _ _ (Ok tt) (Ok true) refl c.loop-alloc.invariant.after.graph; cause = tt }
