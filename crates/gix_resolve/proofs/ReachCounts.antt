-- The count of open commits that are not hidden, after one is added or removed.
use Rattle.std.proofs.Common.{◌≡◌, ℕ, true, false, cond, refl, ap, sym, subst, ◌∙◌, List, [], ◌∷◌, not, ◌+◌, ◌-◌, ◌≤◌, ◌==◌, ◌||◌, ◌⊎◌, inl, inr, arith, IsTrue, Bool, true≢false}
use Rattle.std.specs.List.Sorted.{IsPermutation}
use Rattle.std.proofs.lemmas.List.Sums.{sum_by-cons}
use Rattle.std.proofs.lemmas.List.Sorted.{sum_by_pushed, sum_by_popped, sum_by-IsPermutation}
use Rattle.std.proofs.lemmas.Bool.Decides.{Decides-eqb}
use Rattle.gix_base.specs.declared.hash.ObjectId.{ObjectId}
use Rattle.gix_revwalk.specs.History.{same_id, is_one_of}
use Rattle.gix_revwalk.proofs.Ids.{same_id-true, same_id-itself}
use Rattle.gix_revwalk.proofs.Places.{same_id-sym}
use Rattle.gix_revwalk.proofs.Members.{one_of-cons_cases}
use Rattle.gix_merge_base.proofs.Counting.{same_sum, less_sum}
use Rattle.gix_merge_base.specs.Counting.{times}
use Rattle.gix_merge_base.specs.Marks.{MarkSet, level}
use Rattle.gix_resolve.specs.ReachSides.{hides}
use Rattle.gix_resolve.specs.ReachWalk.{Tells, count_unhidden}

-- what is not in a list occurs 0 times in it
pub times_some : (c : ObjectId) (q : List ObjectId) → 1 ≤ times c q → IsTrue (is_one_of q c)
times_some c [] k = absurd (omega arith)
times_some c (x ∷ xs) k =
    let t = sum_by-cons (λ y. level (same_id c y)) x xs in
    elim (same_id c x) as (λ s. same_id c x ≡ s → IsTrue (is_one_of (x ∷ xs) c)) [
      | true ↦ λ e. ap (λ b. b || is_one_of xs c) e
      | false ↦ λ e. let l : level (same_id c x) ≡ 0 = ap level e in ap (λ b. b || is_one_of xs c) e ∙ times_some c xs (omega arith)
    ] refl

nonzero : (k : ℕ) → 1 ≤ k → (k == 0) ≡ false
nonzero k h = by (k == 0) refl
  where
    by : (b : Bool) → (k == 0) ≡ b → b ≡ false
    by false e = refl
    by true e = let z = (Decides-eqb k 0).0 e in absurd (omega arith)

-- a commit gets marks and is open
module _ (both : Bool) (m m' : ObjectId → MarkSet) (n n' : ObjectId → ℕ) (q q' : List ObjectId) (id : ObjectId) (w : MarkSet) (k : ℕ)
    (marks : (c : ObjectId) → m' c ≡ cond (same_id id c) w (m c)) (queued : (c : ObjectId) → n' c ≡ cond (same_id id c) k (n c)) where
  at_id : m' id ≡ w
  at_id = marks id ∙ ap (λ b. cond b w (m id)) (same_id-itself id)

  off : (c : ObjectId) → same_id id c ≡ false → m' c ≡ m c
  off c e = marks c ∙ ap (λ b. cond b w (m c)) e

  abbrev counted : (ObjectId → MarkSet) → ObjectId → ℕ
  counted f c = level (not (hides both (f c)))

  apart : (c : ObjectId) → same_id id c ≡ false → counted m' c ≡ counted m c
  apart c e = ap (λ z. level (not (hides both z))) (off c e)

  -- the marks hide it
  module _ (free : hides both (m id) ≡ false) (hidden : hides both w ≡ true) where
    elsewhere : (c : ObjectId) → hides both (m' c) ≡ false → same_id id c ≡ false
    elsewhere c shown = elim (same_id id c) as (λ s. same_id id c ≡ s → s ≡ false) [
      | true ↦ λ e. absurd (true≢false (sym hidden ∙ sym (ap (hides both) (marks c ∙ ap (λ b. cond b w (m c)) e)) ∙ shown))
      | false ↦ λ e. refl
    ] refl

    pub tells_hidden : (o : ℕ) → IsPermutation (id ∷ q) q' ⊎ ((1 ≤ n id) × (q' ≡ q)) → Tells both m n q o → Tells both m' n' q' (o - n id)
    tells_hidden o puts tells = record {
      unhidden =
          let old = tells.unhidden in
          let own = tells.times id free in
          let none : counted m' id ≡ 0 = ap (λ z. level (not (hides both z))) at_id ∙ ap (λ b. level (not b)) hidden in
          let less = less_sum id (counted m) (counted m') (ap (λ b. level (not b)) free) none apart q in
          elim puts as (λ _. o - n id ≡ count_unhidden both m' q') [
            | inl perm ↦ let pushed = sum_by_pushed (counted m') id q q' perm in omega arith
            | inr same ↦ let l : count_unhidden both m' q' ≡ count_unhidden both m' q = ap (count_unhidden both m') same.1 in omega arith
          ];
      times = λ c shown.
          let differ = elsewhere c shown in
          let had = tells.times c (sym (ap (hides both) (off c differ)) ∙ shown) in
          let is : n' c ≡ n c = queued c ∙ ap (λ b. cond b k (n c)) differ in
          elim puts as (λ _. n' c ≡ times c q') [
            | inl perm ↦
                let pushed = sum_by_pushed (λ x. level (same_id c x)) id q q' perm in
                let l : level (same_id c id) ≡ 0 = ap level (same_id-sym c id ∙ differ) in
                omega arith
            | inr same ↦ is ∙ had ∙ sym (ap (times c) same.1)
          ];
    }

  -- they do not
  module _ (free : hides both (m id) ≡ false) (shown : hides both w ≡ false) where
    level_at : (c : ObjectId) → counted m' c ≡ counted m c
    level_at c = elim (same_id id c) as (λ s. same_id id c ≡ s → counted m' c ≡ counted m c) [
      | true ↦ λ e. subst (λ z. counted m' z ≡ counted m z) (same_id-true id c e) (ap (λ z. level (not (hides both z))) at_id ∙ ap (λ b. level (not b)) (shown ∙ sym free))
      | false ↦ λ e. apart c e
    ] refl

    -- nor did those that it had
    before : (c : ObjectId) → hides both (m' c) ≡ false → hides both (m c) ≡ false
    before c now = elim (same_id id c) as (λ s. same_id id c ≡ s → hides both (m c) ≡ false) [
      | true ↦ λ e. subst (λ z. hides both (m z) ≡ false) (same_id-true id c e) free
      | false ↦ λ e. sym (ap (hides both) (off c e)) ∙ now
    ] refl

    pub tells_shown : (o : ℕ) → ((n id ≡ 0) × (k ≡ 1) × IsPermutation (id ∷ q) q') ⊎ ((1 ≤ n id) × (k ≡ n id) × (q' ≡ q)) → Tells both m n q o
        → Tells both m' n' q' (cond (n id == 0) (o + 1) o)
    tells_shown o (inl new) tells =
        let test : (n id == 0) ≡ true = ap (λ z. z == 0) new.0 in
        rw test (record {
          unhidden =
              let old = tells.unhidden in
              let pushed = sum_by_pushed (counted m') id q q' new.2 in
              let same = same_sum (counted m) (counted m') level_at q in
              let l : counted m' id ≡ 1 = ap (λ z. level (not (hides both z))) at_id ∙ ap (λ b. level (not b)) shown in
              omega arith;
          times = λ c now.
              let pushed = sum_by_pushed (λ x. level (same_id c x)) id q q' new.2 in
              let had = tells.times c (before c now) in
              let none = new.0 in
              let one = new.1 in
              elim (same_id id c) as (λ s. same_id id c ≡ s → n' c ≡ cond s k (n c) → n' c ≡ times c q') [
                | true ↦ λ same is.
                    let eq = same_id-true id c same in
                    let at : n c ≡ n id = ap n (sym eq) in
                    let l : level (same_id c id) ≡ 1 = ap (λ z. level (same_id c z)) eq ∙ ap level (same_id-itself c) in
                    omega arith
                | false ↦ λ differ is.
                    let l : level (same_id c id) ≡ 0 = ap level (same_id-sym c id ∙ differ) in
                    omega arith
              ] refl (queued c);
        })
    tells_shown o (inr old) tells =
        let test : (n id == 0) ≡ false = nonzero (n id) old.0 in
        rw (test, old.2) (record {
          unhidden = tells.unhidden ∙ sym (same_sum (counted m) (counted m') level_at q);
          times = λ c now. queued c ∙ elim (same_id id c) as (λ s. same_id id c ≡ s → cond s k (n c) ≡ n c) [
            | true ↦ λ e. old.1 ∙ ap n (same_id-true id c e)
            | false ↦ λ e. refl
          ] refl ∙ tells.times c (before c now);
        })

-- a hidden one leaves
pub tells_left : (both : Bool) (m : ObjectId → MarkSet) (n : ObjectId → ℕ) (q q' : List ObjectId) (id : ObjectId) (o : ℕ) → hides both (m id) ≡ true → IsPermutation q (id ∷ q') → Tells both m n q o → Tells both m n q' o
tells_left both m n q q' id o hidden perm tells = record {
  unhidden =
      let old = tells.unhidden in
      let gone = sum_by_popped (λ x. level (not (hides both (m x)))) id q q' perm in
      let l : level (not (hides both (m id))) ≡ 0 = ap (λ z. level (not z)) hidden in
      omega arith;
  times = λ c shown.
      let left = sum_by_popped (λ x. level (same_id c x)) id q q' perm in
      let had = tells.times c shown in
      elim (same_id c id) as (λ s. same_id c id ≡ s → n c ≡ times c q') [
        | true ↦ λ e. absurd (true≢false (sym hidden ∙ ap (λ z. hides both (m z)) (sym (same_id-true c id e)) ∙ shown))
        | false ↦ λ e. let none : level (same_id c id) ≡ 0 = ap level e in omega arith
      ] refl;
}

-- one that is not leaves
pub tells_popped : (both : Bool) (m m' : ObjectId → MarkSet) (n n' : ObjectId → ℕ) (q q' : List ObjectId) (id : ObjectId) (o : ℕ)
    → ((c : ObjectId) → m' c ≡ m c) → ((c : ObjectId) → n' c ≡ cond (same_id id c) (n id - 1) (n c)) → hides both (m id) ≡ false → IsPermutation q (id ∷ q')
    → Tells both m n q o → Tells both m' n' q' (o - 1)
tells_popped both m m' n n' q q' id o marks queued free perm tells =
    let old = tells.unhidden in
    let gone = sum_by_popped (λ x. level (not (hides both (m x)))) id q q' perm in
    let same = same_sum (λ x. level (not (hides both (m x)))) (λ x. level (not (hides both (m' x)))) (λ c. ap (λ (z : MarkSet). level (not (hides both z))) (marks c)) q' in
    record {
      unhidden = let l : level (not (hides both (m id))) ≡ 1 = ap (λ z. level (not z)) free in omega arith;
      times = λ c shown.
          let left = sum_by_popped (λ x. level (same_id c x)) id q q' perm in
          let had = tells.times c (sym (ap (hides both) (marks c)) ∙ shown) in
          elim (same_id id c) as (λ s. same_id id c ≡ s → n' c ≡ cond s (n id - 1) (n c) → n' c ≡ times c q') [
            | true ↦ λ e is.
                let eq = same_id-true id c e in
                let at : n c ≡ n id = ap n (sym eq) in
                let one : level (same_id c id) ≡ 1 = ap (λ z. level (same_id c z)) eq ∙ ap level (same_id-itself c) in
                omega arith
            | false ↦ λ e is.
                let none : level (same_id c id) ≡ 0 = ap level (same_id-sym c id ∙ e) in
                omega arith
          ] refl (queued c);
    }

-- the open ones in another order
pub tells_again : (both : Bool) (m : ObjectId → MarkSet) (n : ObjectId → ℕ) (q q' : List ObjectId) (o : ℕ) → IsPermutation q q' → Tells both m n q o → Tells both m n q' o
tells_again both m n q q' o perm tells = record {
  unhidden = tells.unhidden ∙ sym (sum_by-IsPermutation (λ x. level (not (hides both (m x)))) q q' perm);
  times = λ c shown. tells.times c shown ∙ sym (sum_by-IsPermutation (λ x. level (same_id c x)) q q' perm);
}

-- the same marks and counts
pub tells_same : (both : Bool) (m m' : ObjectId → MarkSet) (n n' : ObjectId → ℕ) (q q' : List ObjectId) (o : ℕ) → ((c : ObjectId) → m' c ≡ m c) → ((c : ObjectId) → n' c ≡ n c) → q' ≡ q → Tells both m n q o → Tells both m' n' q' o
tells_same both m m' n n' q q' o marks queued is tells = rw is record {
  unhidden = tells.unhidden ∙ sym (same_sum (λ x. level (not (hides both (m x)))) (λ x. level (not (hides both (m' x)))) (λ c. ap (λ (z : MarkSet). level (not (hides both z))) (marks c)) q);
  times = λ c shown. queued c ∙ tells.times c (sym (ap (hides both) (marks c)) ∙ shown);
}

-- if no open commit can be wanted
pub all_hidden : (both : Bool) (m : ObjectId → MarkSet) (q : List ObjectId) → count_unhidden both m q ≡ 0 → (c : ObjectId) → IsTrue (is_one_of q c) → IsTrue (hides both (m c))
all_hidden both m [] none c k = cc
all_hidden both m (x ∷ xs) none c k =
    let s = sum_by-cons (λ y. level (not (hides both (m y)))) x xs in
    elim (one_of-cons_cases x xs c k) as (λ _. IsTrue (hides both (m c))) [
      | inl is ↦ subst (λ z. IsTrue (hides both (m z))) (sym is) (hidden (hides both (m x)) (omega arith))
      | inr r ↦ all_hidden both m xs (omega arith) c r
    ]
  where
    hidden : (b : Bool) → level (not b) ≡ 0 → IsTrue b
    hidden true e = refl
    hidden false e = absurd (omega arith)

-- none is open, and none is counted
pub tells_none : (both : Bool) (m : ObjectId → MarkSet) (n : ObjectId → ℕ) → ((c : ObjectId) → n c ≡ 0) → Tells both m n [] 0
tells_none both m n none = record { unhidden = refl; times = λ c shown. none c }
