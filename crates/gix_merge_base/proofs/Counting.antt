-- The count of queued entries whose commit is not stale, over one more entry and over one less, and that of
-- ids which are not stale.
use Rattle.std.proofs.Common.{◌≡◌, ℕ, Bool, true, false, cond, refl, ap, sym, subst, ◌∙◌, List, [], ◌∷◌, ◌++◌, length, not, ◌||◌, ◌+◌, ◌-◌, arith, IsTrue}
use Rattle.std.specs.List.{sum_by}
use Rattle.std.specs.List.Sorted.{IsPermutation}
use Rattle.std.proofs.lemmas.List.Sums.{sum_by-cons, sum_by-append, sum_by_push}
use Rattle.std.proofs.lemmas.List.Sorted.{sum_by_pushed, sum_by_popped}
use Rattle.gix_base.specs.declared.hash.ObjectId.{ObjectId}
use Rattle.gix_revwalk.specs.History.{same_id, is_one_of}
use Rattle.gix_revwalk.proofs.Ids.{same_id-true, same_id-itself}
use Rattle.gix_merge_base.specs.Marks.{MarkSet, level}
use Rattle.gix_merge_base.specs.Counting.{times, unstale, Counts, CountsUnmet}

pub same_sum : (f g : ObjectId → ℕ) → ((c : ObjectId) → g c ≡ f c) → (q : List ObjectId) → sum_by g q ≡ sum_by f q
same_sum f g e [] = refl
same_sum f g e (x ∷ xs) = let a = sum_by-cons f x xs in let b = sum_by-cons g x xs in let i = same_sum f g e xs in let s = e x in omega arith

-- what stands for one at id and now for nothing
pub less_sum : (id : ObjectId) (f g : ObjectId → ℕ) → f id ≡ 1 → g id ≡ 0 → ((c : ObjectId) → same_id id c ≡ false → g c ≡ f c) → (q : List ObjectId) → sum_by g q + times id q ≡ sum_by f q
less_sum id f g one none e [] = refl
less_sum id f g one none e (x ∷ xs) =
    let a = sum_by-cons f x xs in
    let b = sum_by-cons g x xs in
    let t = sum_by-cons (λ y. level (same_id id y)) x xs in
    let i = less_sum id f g one none e xs in
    elim (same_id id x) as (λ s. same_id id x ≡ s → sum_by g (x ∷ xs) + times id (x ∷ xs) ≡ sum_by f (x ∷ xs)) [
      | true ↦ λ same.
          let is = same_id-true id x same in
          let fx : f x ≡ 1 = subst (λ z. f z ≡ 1) is one in
          let gx : g x ≡ 0 = subst (λ z. g z ≡ 0) is none in
          let lx : level (same_id id x) ≡ 1 = ap level same in
          omega arith
      | false ↦ λ apart.
          let lx : level (same_id id x) ≡ 0 = ap level apart in
          let fg = e x apart in
          omega arith
    ] refl

same_id-turned : (a b : ObjectId) → same_id b a ≡ false → same_id a b ≡ false
same_id-turned a b e = elim (same_id a b) as (λ s. same_id a b ≡ s → s ≡ false) [
  | false ↦ λ _. refl
  | true ↦ λ t. let is = same_id-true a b t in let eq : same_id b a ≡ true = subst (λ z. same_id z a ≡ true) is (same_id-itself a) in cc
] refl

-- how often each commit stands in a list that gets id, where n is how often it stood there
times_more : (n n' : ObjectId → ℕ) (id : ObjectId) (q q' : List ObjectId) → ((c : ObjectId) → n' c ≡ cond (same_id id c) (n id + 1) (n c)) → IsPermutation (id ∷ q) q'
    → ((c : ObjectId) → n c ≡ times c q) → (c : ObjectId) → n' c ≡ times c q'
times_more n n' id q q' queued perm old c =
    let pushed = sum_by_pushed (λ x. level (same_id c x)) id q q' perm in
    let here = old c in
    elim (same_id id c) as (λ s. same_id id c ≡ s → n' c ≡ cond s (n id + 1) (n c) → n' c ≡ times c q') [
      | true ↦ λ same is.
          let eq = same_id-true id c same in
          let at : n c ≡ n id = ap n (sym eq) in
          let one : level (same_id c id) ≡ 1 = ap (λ z. level (same_id c z)) eq ∙ ap level (same_id-itself c) in
          omega arith
      | false ↦ λ apart is.
          let none : level (same_id c id) ≡ 0 = ap level (same_id-turned c id apart) in
          omega arith
    ] refl (queued c)

-- the same without a list: id counts once more
pub times_one : (n n' : ObjectId → ℕ) (id : ObjectId) → ((c : ObjectId) → n' c ≡ cond (same_id id c) (n id + 1) (n c)) → (c : ObjectId) → n' c ≡ n c + times c (id ∷ [])
times_one n n' id queued c =
    let alone = sum_by-cons (λ x. level (same_id c x)) id [] in
    let rest : times c [] ≡ 0 = refl in
    elim (same_id id c) as (λ s. same_id id c ≡ s → n' c ≡ cond s (n id + 1) (n c) → n' c ≡ n c + times c (id ∷ [])) [
      | true ↦ λ same is.
          let eq = same_id-true id c same in
          let at : n c ≡ n id = ap n (sym eq) in
          let one : level (same_id c id) ≡ 1 = ap (λ z. level (same_id c z)) eq ∙ ap level (same_id-itself c) in
          omega arith
      | false ↦ λ apart is.
          let none : level (same_id c id) ≡ 0 = ap level (same_id-turned c id apart) in
          omega arith
    ] refl (queued c)

-- those of one list, and then those of another
pub times_then : (n0 n1 n2 : ObjectId → ℕ) (xs ys zs : List ObjectId) → ((c : ObjectId) → n1 c ≡ n0 c + times c xs) → ((c : ObjectId) → n2 c ≡ n1 c + times c ys) → zs ≡ xs ++ ys
    → (c : ObjectId) → n2 c ≡ n0 c + times c zs
times_then n0 n1 n2 xs ys zs first next is c =
    let a = first c in
    let b = next c in
    let s = sum_by-append (λ x. level (same_id c x)) xs ys in
    let e : times c zs ≡ times c (xs ++ ys) = ap (times c) is in
    omega arith

-- what does not stand in a list
times_none : (c : ObjectId) (q : List ObjectId) → is_one_of q c ≡ false → times c q ≡ 0
times_none c [] out = refl
times_none c (x ∷ xs) out =
    let b = sum_by-cons (λ y. level (same_id c y)) x xs in
    let off = or_none (same_id c x) (is_one_of xs c) out in
    let l : level (same_id c x) ≡ 0 = ap level off.0 in
    let r = times_none c xs off.1 in
    omega arith
  where
    or_none : (a d : Bool) → (a || d) ≡ false → (a ≡ false) × (d ≡ false)
    or_none false d e = (refl, e)
    or_none true d e = cc

-- a commit gets marks
module _ (m m' : ObjectId → MarkSet) (id : ObjectId) (w : MarkSet) (marks : (c : ObjectId) → m' c ≡ cond (same_id id c) w (m c)) where
  at_id : m' id ≡ w
  at_id = marks id ∙ ap (λ b. cond b w (m id)) (same_id-itself id)

  off : (c : ObjectId) → same_id id c ≡ false → m' c ≡ m c
  off c e = marks c ∙ ap (λ b. cond b w (m c)) e

  -- it is stale as it was: as many of a list are not
  as_many : w.stale ≡ (m id).stale → (q : List ObjectId) → unstale m' q ≡ unstale m q
  as_many is = same_sum (λ x. level (not (m x).stale)) (λ x. level (not (m' x).stale)) (λ c. elim (same_id id c) as (λ s. same_id id c ≡ s → level (not (m' c).stale) ≡ level (not (m c).stale)) [
    | true ↦ λ e. subst (λ z. level (not (m' z).stale) ≡ level (not (m z).stale)) (same_id-true id c e) (ap (λ z. level (not z)) (ap (λ (z : MarkSet). z.stale) at_id ∙ is))
    | false ↦ λ e. ap (λ (z : MarkSet). level (not z.stale)) (off c e)
  ] refl)

  -- it turns stale: it leaves the count wherever it stands
  as_less : (m id).stale ≡ false → w.stale ≡ true → (q : List ObjectId) → unstale m' q + times id q ≡ unstale m q
  as_less was is =
      less_sum id (λ x. level (not (m x).stale)) (λ x. level (not (m' x).stale)) (ap (λ z. level (not z)) was) (ap (λ z. level (not z)) (ap (λ (z : MarkSet). z.stale) at_id ∙ is))
      (λ c e. ap (λ (z : MarkSet). level (not z.stale)) (off c e))

-- a commit gets marks and an entry; n is how often it was queued
module _ (m m' : ObjectId → MarkSet) (n n' : ObjectId → ℕ) (q q' : List ObjectId) (id : ObjectId) (w : MarkSet)
    (marks : (c : ObjectId) → m' c ≡ cond (same_id id c) w (m c)) (queued : (c : ObjectId) → n' c ≡ cond (same_id id c) (n id + 1) (n c)) (perm : IsPermutation (id ∷ q) q') where
  now_counts : (b : Bool) → w.stale ≡ b → level (not (m' id).stale) ≡ level (not b)
  now_counts b is = ap (λ z. level (not z)) (ap (λ (z : MarkSet). z.stale) (at_id m m' id w marks) ∙ is)

  -- it was not stale, and is not: one entry more
  pub counts_open : (o : ℕ) → Counts m n q o → (m id).stale ≡ false → w.stale ≡ false → Counts m' n' q' (o + 1)
  counts_open o k was is =
      let now : level (not (m' id).stale) ≡ 1 = now_counts false is in
      let pushed = sum_by_pushed (λ x. level (not (m' x).stale)) id q q' perm in
      let same = as_many m m' id w marks (is ∙ sym was) q in
      let old = k.unstale in
      record { unstale = omega arith; times = times_more n n' id q q' queued perm k.times }

  -- it was stale, and is: nothing is counted
  pub counts_stale : (o : ℕ) → Counts m n q o → (m id).stale ≡ true → w.stale ≡ true → Counts m' n' q' o
  counts_stale o k was is =
      let now : level (not (m' id).stale) ≡ 0 = now_counts true is in
      let pushed = sum_by_pushed (λ x. level (not (m' x).stale)) id q q' perm in
      let same = as_many m m' id w marks (is ∙ sym was) q in
      let old = k.unstale in
      record { unstale = omega arith; times = times_more n n' id q q' queued perm k.times }

  -- it turns stale: all its entries leave the count
  pub counts_turned : (o : ℕ) → Counts m n q o → (m id).stale ≡ false → w.stale ≡ true → Counts m' n' q' (o - n id)
  counts_turned o k was is =
      let now : level (not (m' id).stale) ≡ 0 = now_counts true is in
      let pushed = sum_by_pushed (λ x. level (not (m' x).stale)) id q q' perm in
      let less = as_less m m' id w marks was is q in
      let old = k.unstale in
      let own = k.times id in
      record { unstale = omega arith; times = times_more n n' id q q' queued perm k.times }

  -- whichever it is
  pub counts_hand : (o : ℕ) → Counts m n q o → (IsTrue (m id).stale → IsTrue w.stale) → Counts m' n' q' (cond (not w.stale) (o + 1) (cond (m id).stale o (o - n id)))
  counts_hand o k stays =
      elim w.stale as (λ b. w.stale ≡ b → Counts m' n' q' (cond (not b) (o + 1) (cond (m id).stale o (o - n id)))) [
        | false ↦ λ now. counts_open o k (elim (m id).stale as (λ b. (m id).stale ≡ b → b ≡ false) [
          | false ↦ λ _. refl
          | true ↦ λ was. let is = stays was in cc
        ] refl) now
        | true ↦ λ now. elim (m id).stale as (λ b. (m id).stale ≡ b → Counts m' n' q' (cond b o (o - n id))) [
          | true ↦ λ was. counts_stale o k was now
          | false ↦ λ was. counts_turned o k was now
        ] refl
      ] refl

-- an entry leaves
pub counts_popped : (m m' : ObjectId → MarkSet) (n n' : ObjectId → ℕ) (q q' : List ObjectId) (id : ObjectId) (o : ℕ)
    → ((c : ObjectId) → m' c ≡ m c) → ((c : ObjectId) → n' c ≡ cond (same_id id c) (n id - 1) (n c)) → IsPermutation q (id ∷ q')
    → Counts m n q o → Counts m' n' q' (cond (m id).stale o (o - 1))
counts_popped m m' n n' q q' id o marks queued perm k =
    let old = k.unstale in
    let gone = sum_by_popped (λ x. level (not (m x).stale)) id q q' perm in
    let same = same_sum (λ x. level (not (m x).stale)) (λ x. level (not (m' x).stale)) (λ c. ap (λ (z : MarkSet). level (not z.stale)) (marks c)) q' in
    record {
      unstale = elim (m id).stale as (λ b. (m id).stale ≡ b → cond b o (o - 1) ≡ unstale m' q') [
        | true ↦ λ e. let l : level (not (m id).stale) ≡ 0 = ap (λ z. level (not z)) e in omega arith
        | false ↦ λ e. let l : level (not (m id).stale) ≡ 1 = ap (λ z. level (not z)) e in omega arith
      ] refl;
      times = λ c.
          let left = sum_by_popped (λ x. level (same_id c x)) id q q' perm in
          let had = k.times c in
          elim (same_id id c) as (λ s. same_id id c ≡ s → n' c ≡ cond s (n id - 1) (n c) → n' c ≡ times c q') [
            | true ↦ λ e is.
                let eq = same_id-true id c e in
                let at : n c ≡ n id = ap n (sym eq) in
                let one : level (same_id c id) ≡ 1 = ap (λ z. level (same_id c z)) eq ∙ ap level (same_id-itself c) in
                omega arith
            | false ↦ λ e is.
                let none : level (same_id c id) ≡ 0 = ap level (same_id-turned c id e) in
                omega arith
          ] refl (queued c);
    }

-- one more id, which is stale or not
pub unstale_next : (m : ObjectId → MarkSet) (xs : List ObjectId) (id : ObjectId) (b : Bool) → (m id).stale ≡ b → unstale m (xs ++ id ∷ []) ≡ unstale m xs + level (not b)
unstale_next m xs id b is = sum_by_push (λ x. level (not (m x).stale)) xs id ∙ ap (λ z. unstale m xs + level (not z)) is

-- the same marks and counts
pub counts_same : (m m' : ObjectId → MarkSet) (n n' : ObjectId → ℕ) (q q' : List ObjectId) (o : ℕ) → ((c : ObjectId) → m' c ≡ m c) → ((c : ObjectId) → n' c ≡ n c) → q' ≡ q → Counts m n q o → Counts m' n' q' o
counts_same m m' n n' q q' o marks queued is k = rw is record {
  unstale = k.unstale ∙ sym (same_sum (λ x. level (not (m x).stale)) (λ x. level (not (m' x).stale)) (λ c. ap (λ (z : MarkSet). level (not z.stale)) (marks c)) q);
  times = λ c. queued c ∙ k.times c;
}

-- the same commits are stale
pub counts_noted : (m m' : ObjectId → MarkSet) (n n' : ObjectId → ℕ) (q q' : List ObjectId) (o : ℕ) → ((c : ObjectId) → (m' c).stale ≡ (m c).stale) → ((c : ObjectId) → n' c ≡ n c) → q' ≡ q → Counts m n q o → Counts m' n' q' o
counts_noted m m' n n' q q' o marks queued is k = rw is record {
  unstale = k.unstale ∙ sym (same_sum (λ x. level (not (m x).stale)) (λ x. level (not (m' x).stale)) (λ c. ap (λ z. level (not z)) (marks c)) q);
  times = λ c. queued c ∙ k.times c;
}

-- a commit gets marks that make it stale, and an entry: the ids that are not stale
pub unmet_hand : (m m' : ObjectId → MarkSet) (n n' : ObjectId → ℕ) (ids : List ObjectId) (id : ObjectId) (w : MarkSet) (o : ℕ)
    → ((c : ObjectId) → m' c ≡ cond (same_id id c) w (m c)) → ((c : ObjectId) → n' c ≡ cond (same_id id c) (n id + 1) (n c)) → w.stale ≡ true
    → CountsUnmet m n ids o → CountsUnmet m' n' ids (cond (not w.stale) (o + 1) (cond (m id).stale o (o - n id)))
unmet_hand m m' n n' ids id w o marks queued is k = record {
  unstale = ap (λ b. cond (not b) (o + 1) (cond (m id).stale o (o - n id))) is ∙ elim (m id).stale as (λ b. (m id).stale ≡ b → cond b o (o - n id) ≡ unstale m' ids) [
    | true ↦ λ was. k.unstale ∙ sym (as_many m m' id w marks (is ∙ sym was) ids)
    | false ↦ λ was.
        let less = as_less m m' id w marks was is ids in
        let old = k.unstale in
        let own = k.times id was in
        omega arith
  ] refl;
  times = λ c out. elim (same_id id c) as (λ s. same_id id c ≡ s → n' c ≡ times c ids) [
    | true ↦ λ e. let there : (m' c).stale ≡ true = subst (λ z. (m' z).stale ≡ true) (same_id-true id c e) (ap (λ (z : MarkSet). z.stale) (at_id m m' id w marks) ∙ is) in cc
    | false ↦ λ e. queued c ∙ ap (λ b. cond b (n id + 1) (n c)) e ∙ k.times c (sym (ap (λ (z : MarkSet). z.stale) (off m m' id w marks c e)) ∙ out)
  ] refl;
}

pub unmet_same : (m m' : ObjectId → MarkSet) (n n' : ObjectId → ℕ) (ids : List ObjectId) (o : ℕ) → ((c : ObjectId) → m' c ≡ m c) → ((c : ObjectId) → n' c ≡ n c) → CountsUnmet m n ids o → CountsUnmet m' n' ids o
unmet_same m m' n n' ids o marks queued k = record {
  unstale = k.unstale ∙ sym (same_sum (λ x. level (not (m x).stale)) (λ x. level (not (m' x).stale)) (λ c. ap (λ (z : MarkSet). level (not z.stale)) (marks c)) ids);
  times = λ c out. queued c ∙ k.times c (sym (ap (λ (z : MarkSet). z.stale) (marks c)) ∙ out);
}

-- each queued commit is stale, and each of ids then counts once more
pub unmet_painted : (m m' : ObjectId → MarkSet) (n n' : ObjectId → ℕ) (q ids : List ObjectId) (o left : ℕ) → Counts m n q o → ((c : ObjectId) → IsTrue (is_one_of q c) → IsTrue (m c).stale)
    → ((c : ObjectId) → m' c ≡ m c) → ((c : ObjectId) → n' c ≡ n c + times c ids) → left ≡ unstale m' ids → CountsUnmet m' n' ids left
unmet_painted m m' n n' q ids o left k stale marks queued count = record {
  unstale = count;
  times = λ c out.
      let here : (m c).stale ≡ false = sym (ap (λ (z : MarkSet). z.stale) (marks c)) ∙ out in
      let none = times_none c q (elim (is_one_of q c) as (λ b. is_one_of q c ≡ b → b ≡ false) [
        | false ↦ λ _. refl
        | true ↦ λ is. let s = stale c is in cc
      ] refl) in
      let old = k.times c in
      let more = queued c in
      omega arith;
}

-- nothing is stale yet
pub unmet_first : (m : ObjectId → MarkSet) (n : ObjectId → ℕ) (ids : List ObjectId) → ((c : ObjectId) → (m c).stale ≡ false) → ((c : ObjectId) → n c ≡ times c ids) → CountsUnmet m n ids (length ids)
unmet_first m n ids none counted = record { unstale = all_of ids; times = λ c out. counted c }
  where
    all_of : (xs : List ObjectId) → length xs ≡ unstale m xs
    all_of [] = refl
    all_of (x ∷ xs) =
        let c = sum_by-cons (λ y. level (not (m y).stale)) x xs in
        let l : level (not (m x).stale) ≡ 1 = ap (λ z. level (not z)) (none x) in
        let r = all_of xs in
        omega arith
