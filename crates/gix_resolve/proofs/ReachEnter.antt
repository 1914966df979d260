-- A commit gains marks and is open: what the walk keeps stays right.
use Rattle.std.proofs.Common.{◌-◌, ◌≡◌, ℕ, Bool, true, false, true≢false, cond, refl, ap, sym, subst, ◌∙◌, List, [], ◌∷◌, ◌++◌, ◌⊎◌, inl, inr, IsTrue, ◌<◌, ◌≤◌, ◌+◌, ◌==◌, ◌||◌, not, is_some, max, length, arith}
use Rattle.std.specs.Option.{unwrap_or}
use Rattle.std.specs.List.{AllByRecursion}
use Rattle.std.specs.List.Sorted.{IsPermutation}
use Rattle.std.proofs.lemmas.List.Sorted.{list_any-IsPermutation, length_permutation}
use Rattle.gix_base.specs.declared.hash.ObjectId.{ObjectId}
use Rattle.gix_revwalk.specs.History.{History, generation_of, same_id, is_one_of}
use Rattle.gix_revwalk.specs.Graph.{Graphed, held_len, held_ids}
use Rattle.gix_revwalk.specs.Data.{Marks, mark_at}
use Rattle.gix_revwalk.specs.Number.{place_in}
use Rattle.gix_revwalk.specs.Numbers.{item_at, Grows}
use Rattle.gix_revwalk.specs.declared.graph.commit.Commit.{Commit}
use Rattle.gix_revwalk.specs.declared.numbers.Mark.{Mark}
use Rattle.gix_revwalk.specs.declared.numbers.Number.{Number}
use Rattle.gix_revwalk.proofs.Ids.{same_id-true}
use Rattle.gix_merge_base.specs.Marks.{marks_of, joined}
use Rattle.gix_merge_base.specs.PaintQueue.{id_at, AreHeld, marks_at, queued_at, queued_ids, mark_or, no_mark}
use Rattle.gix_merge_base.specs.declared.merge_base.flags.Flags.{Flags}
use Rattle.gix_merge_base.proofs.Known.{ids-grown-queue, held-grown}
use Rattle.gix_merge_base.proofs.Numbered.{held-permutation, same-len, ids-same, ids-pushed, given-marks, given-queued, joined-at}
use Rattle.gix_merge_base.proofs.QueueKeys.{id-grown}
use Rattle.gix_resolve.specs.ReachSides.{hides}
use Rattle.gix_resolve.specs.ReachWalk.{AreMet, AreKeyed, Opens, Reopens, IsRight, Enters}
use Rattle.gix_resolve.specs.declared.reach.walk.Walk.{Walk}
use Rattle.gix_resolve.proofs.ReachCounts.{tells_hidden, tells_shown, times_some, tells_same}
use Rattle.gix_resolve.proofs.ReachMarks.{marked-given, marked-again, marked-grown}

-- the same ids have the same generations
pub keyed-same : {S T : Type 0} (h : History) (m n : Graphed S T) → held_ids n ≡ held_ids m → (ps : List (ℕ × Number)) → AreKeyed h m ps → AreKeyed h n ps
keyed-same h m n e ps k = subst (λ l. AllByRecursion (λ p. p.0 ≡ generation_of h (unwrap_or (item_at l (place_in p.1)) (record { 0 = [] }))) ps) (sym e) k

-- more ids, and the same generations
pub keyed-grown : {S T : Type 0} (h : History) (m n : Graphed S T) → Grows m n → (ps : List (ℕ × Number)) → AreHeld m ps → AreKeyed h m ps → AreKeyed h n ps
keyed-grown h m n grows [] all k = tt
keyed-grown h m n grows (p ∷ ps) all k = (k.0 ∙ ap (generation_of h) (sym (id-grown m n grows (place_in p.1) all.0)), keyed-grown h m n grows ps all.1 k.1)

pub held-same : {S T : Type 0} (m n : Graphed S T) → held_ids n ≡ held_ids m → (ps : List (ℕ × Number)) → AreHeld m ps → AreHeld n ps
held-same m n e ps all = rw (same-len m n e) all

module _ {S A B : Type 0} (h : History) (old new : Graphed S (Commit Flags A)) (number : Number) (a : Mark Flags) (marks w : Flags) (k : ℕ) (walk next : Walk B)
    (lt : place_in number < held_len old) (had : a ≡ mark_or old (id_at old (place_in number))) (right : IsRight h old walk) (is : marks_of w ≡ joined (marks_of marks) (marks_of a.marks)) (free : hides walk.both (marks_of a.marks) ≡ false)
    (opens : Reopens a.queued (generation_of h (id_at old (place_in number))) number walk.front next.front) (given : Marks old (place_in number) (record { marks = w; queued = k }) new) where
  abbrev id : ObjectId
  id = id_at old (place_in number)

  abbrev key : ℕ
  key = generation_of h id

  marks_is : (c : ObjectId) → marks_at new c ≡ cond (same_id id c) (marks_of w) (marks_at old c)
  marks_is = given-marks old new (place_in number) (record { marks = w; queued = k }) lt given

  queued_is : (c : ObjectId) → queued_at new c ≡ cond (same_id id c) k (queued_at old c)
  queued_is = given-queued old new (place_in number) (record { marks = w; queued = k }) lt given

  queued_had : a.queued ≡ queued_at old id
  queued_had = ap (λ (z : Mark Flags). z.queued) had

  marks_had : marks_of a.marks ≡ marks_at old id
  marks_had = ap (λ (z : Mark Flags). marks_of z.marks) had

  is_joined : marks_of w ≡ joined (marks_of marks) (marks_at old id)
  is_joined = is ∙ ap (joined (marks_of marks)) marks_had

  free_had : hides walk.both (marks_at old id) ≡ false
  free_had = sym (ap (hides walk.both) marks_had) ∙ free

  cases : IsPermutation (id ∷ queued_ids old walk.front) (queued_ids new next.front) ⊎ ((1 ≤ queued_at old id) × (queued_ids new next.front ≡ queued_ids old walk.front))
  cases = by opens
    where
      by : Reopens a.queued key number walk.front next.front → IsPermutation (id ∷ queued_ids old walk.front) (queued_ids new next.front) ⊎ ((1 ≤ queued_at old id) × (queued_ids new next.front ≡ queued_ids old walk.front))
      by (inl new_one) = inl (ids-pushed old new given.ids key number walk.front next.front new_one)
      by (inr old_one) =
          let some = old_one.0 in
          let q = queued_had in
          inr (omega arith, ap (queued_ids new) old_one.1 ∙ ids-same old new given.ids walk.front)

  pub enters : Enters (marks_of marks) id (marks_at old) (queued_ids old walk.front) (marks_at new) (queued_ids new next.front)
  enters = record {
    marks = joined-at (marks_at old) id (marks_of marks) (marks_of w) is_joined (marks_at new) marks_is (λ d e. same_id-true id d e);
    inside = λ c. elim cases as (λ _. is_one_of (queued_ids new next.front) c ≡ is_one_of (id ∷ queued_ids old walk.front) c) [
      | inl one ↦ sym (list_any-IsPermutation (same_id c) (id ∷ queued_ids old walk.front) (queued_ids new next.front) one)
      | inr one ↦ ap (λ l. is_one_of l c) one.1 ∙ there (queued_ids old walk.front) (times_some id (queued_ids old walk.front) (subst (λ z. 1 ≤ z) (right.tells.times id free_had) one.0)) c
    ];
    len = elim cases as (λ _. length (queued_ids new next.front) ≤ 1 + length (queued_ids old walk.front)) [
      | inl one ↦ let l = length_permutation (id ∷ queued_ids old walk.front) (queued_ids new next.front) one in omega arith
      | inr one ↦ let l : length (queued_ids new next.front) ≡ length (queued_ids old walk.front) = ap length one.1 in omega arith
    ];
  }
    where
      there : (q : List ObjectId) → IsTrue (is_one_of q id) → (c : ObjectId) → is_one_of q c ≡ is_one_of (id ∷ q) c
      there q in_q c = elim (same_id c id) as (λ b. same_id c id ≡ b → is_one_of q c ≡ (b || is_one_of q c)) [
        | true ↦ λ e. subst (λ z. IsTrue (is_one_of q z)) (sym (same_id-true c id e)) in_q
        | false ↦ λ e. refl
      ] refl

  held : AreHeld new next.front
  held = held-same old new given.ids next.front (elim opens as (λ _. AreHeld old next.front) [
    | inl one ↦ held-permutation (λ p. place_in p.1 < held_len old) ((key, number) ∷ walk.front) next.front one (lt, right.held)
    | inr one ↦ subst (AreHeld old) (sym one.1) right.held
  ])

  keyed : AreKeyed h new next.front
  keyed = keyed-same h old new given.ids next.front (elim opens as (λ _. AreKeyed h old next.front) [
    | inl one ↦ held-permutation (λ p. p.0 ≡ generation_of h (id_at old (place_in p.1))) ((key, number) ∷ walk.front) next.front one (refl, right.keyed)
    | inr one ↦ subst (AreKeyed h old) (sym one.1) right.keyed
  ])

  -- the marks hide it
  pub right_hidden : hides walk.both (marks_of w) ≡ true → next.both ≡ walk.both → next.met.items ≡ walk.met.items → next.unhidden ≡ walk.unhidden - a.queued → IsRight h new next
  right_hidden hidden same_both met count = record {
    met = subst (λ b. AreMet b new next.met.items) (sym same_both) (subst (AreMet walk.both new) (sym met)
        (marked-again walk.both old new walk.met.items number (record { marks = w; queued = k }) lt right.met given (λ shown. absurd (true≢false (sym hidden ∙ shown)))));
    held = held;
    keyed = keyed;
    tells = rw (same_both, count, queued_had) (tells_hidden walk.both (marks_at old) (marks_at new) (queued_at old) (queued_at new) (queued_ids old walk.front) (queued_ids new next.front) id (marks_of w) k marks_is queued_is
        free_had hidden walk.unhidden cases right.tells);
  }

  -- they do not
  pub right_shown : hides walk.both (marks_of w) ≡ false → k ≡ max a.queued 1 → Opens a.queued key number walk.front next.front → (unmarked : Bool) → unmarked ≡ not (is_some (mark_at old id))
      → next.both ≡ walk.both → next.met.items ≡ cond unmarked (walk.met.items ++ number ∷ []) walk.met.items → next.unhidden ≡ cond (a.queued == 0) (walk.unhidden + 1) walk.unhidden → IsRight h new next
  right_shown shown k_is strictly unmarked test same_both met count = record {
    met = subst (λ b. AreMet b new next.met.items) (sym same_both) (subst (AreMet walk.both new) (sym met)
        (marked-given walk.both old new walk.met.items number (record { marks = w; queued = k }) lt right.met given unmarked test free_had));
    held = held;
    keyed = keyed;
    tells = rw (same_both, count, queued_had) (tells_shown walk.both (marks_at old) (marks_at new) (queued_at old) (queued_at new) (queued_ids old walk.front) (queued_ids new next.front) id (marks_of w) k marks_is queued_is
        free_had shown walk.unhidden (by strictly) right.tells);
  }
    where
      by : Opens a.queued key number walk.front next.front
          → ((queued_at old id ≡ 0) × (k ≡ 1) × IsPermutation (id ∷ queued_ids old walk.front) (queued_ids new next.front)) ⊎ ((1 ≤ queued_at old id) × (k ≡ queued_at old id) × (queued_ids new next.front ≡ queued_ids old walk.front))
      by (inl new_one) =
          let none = new_one.0 in
          let q = queued_had in
          let i = k_is in
          inl (sym q ∙ none, omega arith, ids-pushed old new given.ids key number walk.front next.front new_one.1)
      by (inr old_one) =
          let some = old_one.0 in
          let q = queued_had in
          let i = k_is in
          inr (omega arith, omega arith, ap (queued_ids new) old_one.1 ∙ ids-same old new given.ids walk.front)

-- what opens once may open again
pub opens-again : (n generation : ℕ) (number : Number) (ps rs : List (ℕ × Number)) → Opens n generation number ps rs → Reopens n generation number ps rs
opens-again n generation number ps rs (inl one) = inl one.1
opens-again n generation number ps rs (inr one) = inr one

-- more is held that no walk has marked
pub right_grown : {S A B : Type 0} (h : History) (m n : Graphed S (Commit Flags A)) (walk : Walk B) → Grows m n → ((q : ObjectId) → mark_at n q ≡ mark_at m q) → IsRight h m walk → IsRight h n walk
right_grown h m n walk grows same right = record {
  met = marked-grown walk.both m n walk.met.items grows same right.met;
  held = held-grown m n grows walk.front right.held;
  keyed = keyed-grown h m n grows walk.front right.held right.keyed;
  tells = tells_same walk.both (marks_at m) (marks_at n) (queued_at m) (queued_at n) (queued_ids m walk.front) (queued_ids n walk.front) walk.unhidden
      (λ c. ap (λ o. marks_of (unwrap_or o no_mark).marks) (same c)) (λ c. ap (λ o. (unwrap_or o no_mark).queued) (same c)) (ids-grown-queue m n grows walk.front right.held) right.tells;
}
