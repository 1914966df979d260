-- The counts of the queued commits that lack a mark, from one state of a walk to the next.
use Rattle.std.proofs.Common.{◌≡◌, ℕ, ◌+◌, ◌-◌, ◌<◌, Bool, true, false, refl, ap, sym, subst, ◌∙◌, List, [], ◌∷◌, ◌++◌, ◌⊎◌, inl, inr, ◌||◌, not, length, slice_index, Option, arith}
use Rattle.std.specs.List.{sum_by}
use Rattle.std.specs.List.Sorted.{IsPermutation}
use Rattle.std.proofs.lemmas.List.{length-map, length_push, get_or_push, get_or_append_left}
use Rattle.std.proofs.lemmas.List.Sums.{sum_by-cons}
use Rattle.gix_base.specs.declared.hash.ObjectId.{ObjectId}
use Rattle.gix_revwalk.specs.History.{History, same_id, is_one_of}
use Rattle.gix_revwalk.proofs.Ids.{same_id-itself}
use Rattle.gix_describe.specs.declared.describe.key.Key.{Key}
use Rattle.gix_describe.specs.declared.describe.met.Met.{Met}
use Rattle.gix_describe.specs.declared.describe.walk.Walk.{Walk}
use Rattle.gix_describe.specs.Handing.{Queue, queued_ids, bits, bit}
use Rattle.gix_describe.specs.Lacking.{lacks, lacking_in, CountEach}
use Rattle.gix_describe.specs.Trace.{is_open, has_mark}
use Rattle.gix_describe.specs.WalkState.{IsQueue, IsMarked, HasTally, others}
use Rattle.gix_describe.proofs.Early.{In, absent}
use Rattle.gix_describe.proofs.Lacking.{counts_taken, lacking_popped, lacking_pushed, sum_same}
use Rattle.gix_describe.proofs.Traces.{and_right, mark_fresh}

-- a commit leaves the queue
pub tally_taken : {A : Type 0} (held : ObjectId → Option ℕ) (k : Key) (x : Met) (w0 w1 : Walk A) → HasTally w0 held (λ _. 0) → IsPermutation w0.queue ((k, x) ∷ w1.queue)
    → w1.candidates.items ≡ w0.candidates.items → w1.lacking.items ≡ w0.lacking.items → HasTally w1 held (λ j. lacks j (bits (held x.id)))
tally_taken held k x w0 w1 t perm same lacking = record {
  each = ap length lacking ∙ t.each ∙ ap length (sym same);
  is = λ j below.
      let old : slice_index w0.lacking.items j ≡ 0 + lacking_in j held w0.queue = t.is j (subst (λ l. j < length l) same below) in
      let popped = lacking_popped j held k x w0.queue w1.queue perm in
      let kept : slice_index w1.lacking.items j ≡ slice_index w0.lacking.items j = ap (λ l. slice_index l j) lacking in
      omega arith;
}

-- a commit goes back into the queue
pub tally_back : {A : Type 0} (held : ObjectId → Option ℕ) (k : Key) (x : Met) (w0 w1 : Walk A) → HasTally w0 held (λ j. lacks j (bits (held x.id))) → IsPermutation ((k, x) ∷ w0.queue) w1.queue
    → w1.candidates.items ≡ w0.candidates.items → w1.lacking.items ≡ w0.lacking.items → HasTally w1 held (λ _. 0)
tally_back held k x w0 w1 t perm same lacking = record {
  each = ap length lacking ∙ t.each ∙ ap length (sym same);
  is = λ j below.
      let old : slice_index w0.lacking.items j ≡ lacks j (bits (held x.id)) + lacking_in j held w0.queue = t.is j (subst (λ l. j < length l) same below) in
      let pushed = lacking_pushed j held k x w0.queue w1.queue perm in
      let kept : slice_index w1.lacking.items j ≡ slice_index w0.lacking.items j = ap (λ l. slice_index l j) lacking in
      omega arith;
}

-- a commit that has left the queue is no longer counted
pub counts_left : (h : History) (s : ObjectId) (popped cs : List ObjectId) (x : ObjectId) (held : ObjectId → Option ℕ) (left : ObjectId → Bool) (q : Queue) (m : ℕ) (ls ns : List ℕ)
    → IsQueue h s q (others h s popped x) → IsMarked h s popped cs held → ((c : ObjectId) → left c ≡ is_one_of popped c) → m ≡ bits (held x)
    → ((j : ℕ) → j < length ls → slice_index ls j ≡ lacks j (bits (held x)) + lacking_in j held q) → length ns ≡ length ls
    → ((j : ℕ) → j < length ls → slice_index ns j ≡ slice_index ls j - lacks j m) → CountEach ns held (λ c. same_id x c || left c) q
counts_left h s popped cs x held left q m ls ns at marked noted is tally same less = λ j below.
    let low : j < length ls = omega arith in
    let had : slice_index ls j ≡ lacks j (bits (held x)) + lacking_in j held q = tally j low in
    let took : slice_index ns j ≡ slice_index ls j - lacks j (bits (held x)) = less j low ∙ ap (λ k. slice_index ls j - lacks j k) is in
    counts_taken h s popped cs x j held left q (slice_index ns j) at marked noted (omega arith)

-- what is counted once it has left
pub tally_left : (cs : List ObjectId) (x : ObjectId) (held : ObjectId → Option ℕ) (q : Queue) (m : ℕ) (ls ns : List ℕ) → m ≡ bits (held x) → length ls ≡ length cs
    → ((j : ℕ) → j < length cs → slice_index ls j ≡ lacks j (bits (held x)) + lacking_in j held q) → ((j : ℕ) → j < length ls → slice_index ns j ≡ slice_index ls j - lacks j m)
    → (j : ℕ) → j < length cs → slice_index ns j ≡ lacking_in j held q
tally_left cs x held q m ls ns is each tally less j below =
    let had : slice_index ls j ≡ lacks j (bits (held x)) + lacking_in j held q = tally j below in
    let took : slice_index ns j ≡ slice_index ls j - lacks j (bits (held x)) = less j (omega arith) ∙ ap (λ k. slice_index ls j - lacks j k) is in
    omega arith

-- what is counted once the marks are handed on
pub tally_from : {A : Type 0} (held : ObjectId → Option ℕ) (left : ObjectId → Bool) (w : Walk A) → CountEach w.lacking.items held left w.queue → length w.lacking.items ≡ length w.candidates.items → HasTally w held (λ _. 0)
tally_from held left w counts each = record {
  each = each;
  is = λ j below. let is : slice_index w.lacking.items j ≡ lacking_in j held w.queue = (counts j (omega arith)).count in omega arith;
}

all_lack : (f : ObjectId → ℕ) (q : List ObjectId) → ((c : ObjectId) → is_one_of q c ≡ true → f c ≡ 1) → sum_by f q ≡ length q
all_lack f [] e = refl
all_lack f (x ∷ xs) e =
    let a = sum_by-cons f x xs in
    let own : f x ≡ 1 = e x (ap (λ b. b || is_one_of xs x) (same_id-itself x)) in
    let rest = all_lack f xs (λ c m. e c (later (same_id c x) (is_one_of xs c) m)) in
    omega arith
  where
    later : (a b : Bool) → b ≡ true → (a || b) ≡ true
    later true b e = refl
    later false b e = e

-- a popped commit becomes a candidate: of what is queued, nothing has its mark
module _ {A : Type 0} (h : History) (s : ObjectId) (popped cs : List ObjectId) (x : ObjectId) (held now : ObjectId → Option ℕ) (w0 w1 : Walk A) (t : HasTally w0 held (λ j. lacks j (bits (held x)))) (are : w0.candidates.items ≡ cs)
    (old : IsMarked h s popped cs held) (new : IsMarked h s popped (cs ++ x ∷ []) now) (out : ¬ In popped x) (at : IsQueue h s w0.queue (others h s popped x)) (same : w1.queue ≡ w0.queue) (more : w1.candidates.items ≡ cs ++ x ∷ [])
    (longer : w1.lacking.items ≡ w0.lacking.items ++ length w0.queue ∷ []) where
  kept : (j : ℕ) → j < length cs → (c : ObjectId) → lacks j (bits (now c)) ≡ lacks j (bits (held c))
  kept j below c =
      let len : length (cs ++ x ∷ []) ≡ length cs + 1 = length_push cs x in
      ap (λ b. 1 - b) (new.marks j (omega arith) c ∙ ap (λ z. bit (has_mark h z popped c)) (get_or_append_left cs (x ∷ []) s j below) ∙ sym (old.marks j below c))

  fresh : (c : ObjectId) → lacks (length cs) (bits (now c)) ≡ 1 - bit (same_id x c)
  fresh c =
      let len : length (cs ++ x ∷ []) ≡ length cs + 1 = length_push cs x in
      ap (λ b. 1 - b) (new.marks (length cs) (omega arith) c ∙ ap (λ z. bit (has_mark h z popped c)) (get_or_push cs x s (length cs) refl) ∙ ap bit (mark_fresh h x popped (absent popped x out) c))

  apart : (c : ObjectId) → is_one_of (queued_ids w0.queue) c ≡ true → lacks (length cs) (bits (now c)) ≡ 1
  apart c m = fresh c ∙ ap (λ b. 1 - bit b) (un (same_id x c) (and_right (is_open h s popped c) (not (same_id x c)) (sym (at.ids c) ∙ m)))
    where
      un : (b : Bool) → not b ≡ true → b ≡ false
      un true e = sym e
      un false e = refl

  pub tally_takes : HasTally w1 now (λ j. lacks j (bits (now x)))
  tally_takes = record {
    each = ap length longer ∙ length_push w0.lacking.items (length w0.queue) ∙ ap (λ n. n + 1) (t.each ∙ ap length are) ∙ sym (length_push cs x) ∙ ap length (sym more);
    is = λ j below. ap (λ l. slice_index l j) longer ∙ by j (old_or_new j (length cs) (rw (more, length_push cs x) at below)) ∙ ap (λ l. lacks j (bits (now x)) + lacking_in j now l) (sym same);
  }
    where
      old_or_new : (j n : ℕ) → j < n + 1 → (j < n) ⊎ (j ≡ n)
      old_or_new j n l = grind arith

      by : (j : ℕ) → (j < length cs) ⊎ (j ≡ length cs) → slice_index (w0.lacking.items ++ length w0.queue ∷ []) j ≡ lacks j (bits (now x)) + lacking_in j now w0.queue
      by j (inl l) =
          let each : length w0.lacking.items ≡ length cs = t.each ∙ ap length are in
          get_or_append_left w0.lacking.items (length w0.queue ∷ []) 0 j (omega arith) ∙ t.is j (subst (λ k. j < length k) (sym are) l)
          ∙ ap (λ n. n + lacking_in j held w0.queue) (sym (kept j l x)) ∙ ap (λ n. lacks j (bits (now x)) + n) (sym (sum_same (λ c. lacks j (bits (held c))) (λ c. lacks j (bits (now c))) (kept j l) (queued_ids w0.queue)))
      by j (inr e) =
          let own : lacks (length cs) (bits (now x)) ≡ 0 = fresh x ∙ ap (λ b. 1 - bit b) (same_id-itself x) in
          let all : lacking_in (length cs) now w0.queue ≡ length (queued_ids w0.queue) = all_lack (λ c. lacks (length cs) (bits (now c))) (queued_ids w0.queue) apart in
          let ids : length (queued_ids w0.queue) ≡ length w0.queue = length-map w0.queue (λ p. p.1.id) in
          let last : slice_index (w0.lacking.items ++ length w0.queue ∷ []) j ≡ length w0.queue = get_or_push w0.lacking.items (length w0.queue) 0 j (t.each ∙ ap length are ∙ sym e) in
          subst (λ i. slice_index (w0.lacking.items ++ length w0.queue ∷ []) j ≡ lacks i (bits (now x)) + lacking_in i now w0.queue) (sym e) (omega arith)
