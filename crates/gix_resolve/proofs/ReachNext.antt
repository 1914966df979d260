-- What the walk keeps stays right when an open commit leaves, and is right when a walk begins.
use Rattle.std.proofs.Common.{true≢false, ◌≡◌, ℕ, true, false, cond, refl, ap, sym, subst, ◌∙◌, List, [], ◌∷◌, inl, inr, IsTrue, ◌<◌, ◌≤◌, ◌-◌, is_some, Option, Some, None, arith}
use Rattle.std.specs.Option.{unwrap_or}
use Rattle.std.specs.List.{AllByRecursion}
use Rattle.std.specs.List.Sorted.{IsPermutation}
use Rattle.std.proofs.lemmas.List.Sorted.{sum_by_popped}
use Rattle.gix_base.specs.declared.hash.ObjectId.{ObjectId}
use Rattle.gix_revwalk.specs.History.{History, generation_of, same_id, is_one_of}
use Rattle.gix_revwalk.specs.Graph.{Graphed, held_len}
use Rattle.gix_revwalk.specs.Data.{Marks, mark_at}
use Rattle.gix_revwalk.specs.Number.{place_in}
use Rattle.gix_revwalk.specs.declared.graph.commit.Commit.{Commit}
use Rattle.gix_revwalk.specs.declared.numbers.Mark.{Mark}
use Rattle.gix_revwalk.specs.declared.numbers.Number.{Number}
use Rattle.gix_revwalk.proofs.Ids.{same_id-itself}
use Rattle.gix_revwalk.proofs.Members.{nothing, one_of-cons_cases}
use Rattle.gix_merge_base.specs.Marks.{marks_of, level}
use Rattle.gix_merge_base.specs.PaintQueue.{id_at, AreHeld, marks_at, queued_at, queued_ids, mark_or, no_mark}
use Rattle.gix_merge_base.specs.declared.merge_base.flags.Flags.{Flags}
use Rattle.gix_merge_base.proofs.Numbered.{held-permutation, ids-popped, same-marks, given-marks, given-queued}
use Rattle.gix_resolve.specs.ReachSides.{hides, IsOver}
use Rattle.gix_resolve.specs.ReachWalk.{AreMet, AreKeyed, IsRight, with_open}
use Rattle.gix_resolve.specs.declared.reach.walk.Walk.{Walk}
use Rattle.gix_resolve.proofs.ReachCounts.{tells_left, tells_popped, tells_again, tells_none, all_hidden}
use Rattle.gix_resolve.proofs.ReachEnter.{keyed-same, held-same}
use Rattle.gix_resolve.proofs.ReachMarks.{marked-again}

-- what is queued has a mark
queued-marked : (o : Option (Mark Flags)) → 1 ≤ (unwrap_or o no_mark).queued → is_some o ≡ true
queued-marked None k = absurd (omega arith)
queued-marked (Some x) k = refl

-- no open commit has a greater generation than the greatest key
below-key : {S T : Type 0} (h : History) (g : Graphed S T) (k : ℕ) (ps : List (ℕ × Number)) → AreKeyed h g ps → AllByRecursion (λ p. p.0 ≤ k) ps → (c : ObjectId) → IsTrue (is_one_of (queued_ids g ps) c) → generation_of h c ≤ k
below-key h g k [] keyed all c m = cc
below-key h g k (p ∷ ps) keyed all c m =
    elim (one_of-cons_cases (id_at g (place_in p.1)) (queued_ids g ps) c m) as (λ _. generation_of h c ≤ k) [
      | inl is ↦
          let same : generation_of h c ≡ generation_of h (id_at g (place_in p.1)) = ap (generation_of h) is in
          let key = keyed.0 in
          let most = all.0 in
          omega arith
      | inr r ↦ below-key h g k ps keyed.1 all.1 c r
    ]

pub over_below : {S A B : Type 0} (h : History) (g : Graphed S (Commit Flags A)) (walk : Walk B) (k : ℕ) → IsRight h g walk → walk.unhidden ≡ 0 → k < walk.least → AllByRecursion (λ p. p.0 ≤ k) walk.front
    → IsOver h walk.both (marks_at g) (queued_ids g walk.front) walk.least
over_below h g walk k right none below all c m = (
  all_hidden walk.both (marks_at g) (queued_ids g walk.front) (sym right.tells.unhidden ∙ none) c m,
  let most = below-key h g k walk.front right.keyed all c m in omega arith,
)

module _ {S A B : Type 0} (h : History) (old : Graphed S (Commit Flags A)) (generation : ℕ) (number : Number) (walk : Walk B) (rest : List (ℕ × Number))
    (right : IsRight h old walk) (taken : IsPermutation walk.front ((generation, number) ∷ rest)) where
  pub popped_inside : place_in number < held_len old
  popped_inside = (held-permutation (λ p. place_in p.1 < held_len old) walk.front ((generation, number) ∷ rest) taken right.held).0

  pub popped_held : AreHeld old rest
  popped_held = (held-permutation (λ p. place_in p.1 < held_len old) walk.front ((generation, number) ∷ rest) taken right.held).1

  pub popped_key : generation ≡ generation_of h (id_at old (place_in number))
  popped_key = (held-permutation (λ p. p.0 ≡ generation_of h (id_at old (place_in p.1))) walk.front ((generation, number) ∷ rest) taken right.keyed).0

  pub left_queue : IsPermutation (queued_ids old walk.front) (id_at old (place_in number) ∷ queued_ids old rest)
  left_queue = ids-popped old old refl generation number walk.front rest taken

  -- what is kept does not hang on the order of the open ones
  pub right_open : IsRight h old (with_open generation number (record { both = walk.both; met = walk.met; front = rest; unhidden = walk.unhidden; least = walk.least }))
  right_open = record {
    met = right.met;
    held = held-permutation (λ p. place_in p.1 < held_len old) walk.front ((generation, number) ∷ rest) taken right.held;
    keyed = held-permutation (λ p. p.0 ≡ generation_of h (id_at old (place_in p.1))) walk.front ((generation, number) ∷ rest) taken right.keyed;
    tells = tells_again walk.both (marks_at old) (queued_at old) (queued_ids old walk.front) (id_at old (place_in number) ∷ queued_ids old rest) walk.unhidden left_queue right.tells;
  }

  -- a hidden one leaves
  pub right_left : hides walk.both (marks_at old (id_at old (place_in number))) ≡ true → (next : Walk B) → next.both ≡ walk.both → next.met.items ≡ walk.met.items → next.front ≡ rest → next.unhidden ≡ walk.unhidden → IsRight h old next
  right_left hidden next same_both met front count = record {
    met = subst (λ b. AreMet b old next.met.items) (sym same_both) (subst (AreMet walk.both old) (sym met) right.met);
    held = subst (AreHeld old) (sym front) (held-permutation (λ p. place_in p.1 < held_len old) walk.front ((generation, number) ∷ rest) taken right.held).1;
    keyed = subst (AreKeyed h old) (sym front) (held-permutation (λ p. p.0 ≡ generation_of h (id_at old (place_in p.1))) walk.front ((generation, number) ∷ rest) taken right.keyed).1;
    tells = rw (same_both, count, front) (tells_left walk.both (marks_at old) (queued_at old) (queued_ids old walk.front) (queued_ids old rest) (id_at old (place_in number)) walk.unhidden hidden left_queue right.tells);
  }

  -- one leaves that is not hidden
  module _ (new : Graphed S (Commit Flags A)) (a : Mark Flags) (k : ℕ) (had : a ≡ mark_or old (id_at old (place_in number))) (free : hides walk.both (marks_at old (id_at old (place_in number))) ≡ false) (given : Marks old (place_in number) (record { marks = a.marks; queued = k }) new) where
    pub popped_marks : (c : ObjectId) → marks_at new c ≡ marks_at old c
    popped_marks = same-marks (marks_at old) (marks_at new) (id_at old (place_in number)) (marks_of a.marks) (ap (λ (z : Mark Flags). marks_of z.marks) had) (given-marks old new (place_in number) (record { marks = a.marks; queued = k }) popped_inside given)

    pub popped_queue : IsPermutation (queued_ids old walk.front) (id_at old (place_in number) ∷ queued_ids new rest)
    popped_queue = ids-popped old new given.ids generation number walk.front rest taken

    pub popped_met : AreMet walk.both new walk.met.items
    popped_met =
        let id = id_at old (place_in number) in
        let gone = sum_by_popped (λ x. level (same_id id x)) id (queued_ids old walk.front) (queued_ids new rest) popped_queue in
        let one : level (same_id id id) ≡ 1 = ap level (same_id-itself id) in
        let tells = right.tells.times id free in
        marked-again walk.both old new walk.met.items number (record { marks = a.marks; queued = k }) popped_inside right.met given
        (λ shown. (queued-marked (mark_at old id) (omega arith), free))

    pub right_popped : k ≡ a.queued - 1 → (next : Walk B) → next.both ≡ walk.both → next.met.items ≡ walk.met.items → next.front ≡ rest → next.unhidden ≡ walk.unhidden - 1 → IsRight h new next
    right_popped less next same_both met front count = record {
      met = subst (λ b. AreMet b new next.met.items) (sym same_both) (subst (AreMet walk.both new) (sym met) popped_met);
      held = held-same old new given.ids next.front (subst (AreHeld old) (sym front) (held-permutation (λ p. place_in p.1 < held_len old) walk.front ((generation, number) ∷ rest) taken right.held).1);
      keyed = keyed-same h old new given.ids next.front (subst (AreKeyed h old) (sym front) (held-permutation (λ p. p.0 ≡ generation_of h (id_at old (place_in p.1))) walk.front ((generation, number) ∷ rest) taken right.keyed).1);
      tells = rw (same_both, count, front)
          (tells_popped walk.both (marks_at old) (marks_at new) (queued_at old) (queued_at new) (queued_ids old walk.front) (queued_ids new rest) (id_at old (place_in number)) walk.unhidden popped_marks
          (λ c. given-queued old new (place_in number) (record { marks = a.marks; queued = k }) popped_inside given c ∙ ap (λ z. cond (same_id (id_at old (place_in number)) c) z (queued_at old c)) (less ∙ ap (λ (z : Mark Flags). z.queued - 1) had))
          free popped_queue right.tells);
    }

-- the same is kept
pub right_again : {S A B : Type 0} (h : History) (g : Graphed S (Commit Flags A)) (walk next : Walk B) → next.both ≡ walk.both → next.met.items ≡ walk.met.items → next.front ≡ walk.front → next.unhidden ≡ walk.unhidden → IsRight h g walk → IsRight h g next
right_again h g walk next both met front unhidden right = record {
  met = subst (λ b. AreMet b g next.met.items) (sym both) (subst (AreMet walk.both g) (sym met) right.met);
  held = subst (AreHeld g) (sym front) right.held;
  keyed = subst (AreKeyed h g) (sym front) right.keyed;
  tells = rw (both, front, unhidden) right.tells;
}

-- before anything is marked
pub right_none : {S A B : Type 0} (h : History) (g : Graphed S (Commit Flags A)) (walk : Walk B) → ((q : ObjectId) → mark_at g q ≡ None) → walk.met.items ≡ [] → walk.front ≡ [] → walk.unhidden ≡ 0 → IsRight h g walk
right_none h g walk none met front unhidden = record {
  met = subst (AreMet walk.both g) (sym met) (record { inside = tt; marked = λ q k. cc; every = λ q k hid. absurd (true≢false (sym k ∙ ap is_some (none q))); once = nothing });
  held = subst (AreHeld g) (sym front) tt;
  keyed = subst (AreKeyed h g) (sym front) tt;
  tells = rw (unhidden, front) (tells_none walk.both (marks_at g) (queued_at g) (λ c. ap (λ o. (unwrap_or o no_mark).queued) (none c)));
}
