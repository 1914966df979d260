-- The steps of painting, as relations between the marks m and the queue q before, and m' and q'
-- after.
use Rattle.std.specs.Prelude.{◌≡◌, ◌≤◌, ◌+◌, ℕ, List, [], ◌∷◌, ◌++◌, IsTrue, ◌⊎◌, ◌||◌, ◌&&◌, false, cond, length, is_some}
use Rattle.std.specs.List.Sorted.{IsPermutation}
use Rattle.gix_revwalk.specs.History.{History, Has, entry_at, is_one_of, same_id, parents_in}
use Rattle.gix_base.specs.declared.hash.ObjectId.{ObjectId}
use Rattle.gix_merge_base.specs.Marks.{MarkSet, HasMarksOf, handed_on, becomes_result, joined, marks_in}

-- How many marks the commits of a list have in all, not counting that of a result.
abbrev pub total : List ObjectId → (ObjectId → MarkSet) → ℕ
total [] m = 0
total (x ∷ xs) m = marks_in (m x) + total xs m

-- Each commit with a mark other than that of a result is one of ids.
abbrev pub Covers : List ObjectId → (ObjectId → MarkSet) → Type 0
Covers ids m = (p : ObjectId) → (1 ≤ marks_in (m p)) → IsTrue (is_one_of ids p)

-- The marks w are handed to those of ps that the history has, and those that lacked one of them are
-- queued.
pub record Hands (h : History) (w : MarkSet) (ps : List ObjectId) (m : ObjectId → MarkSet) (q : List ObjectId) (m' : ObjectId → MarkSet) (q' : List ObjectId) : Type 0 where
  pub more : (c : ObjectId) → HasMarksOf (m c) (m' c)
  pub result : (c : ObjectId) → (m' c).result ≡ (m c).result
  pub changed : (c : ObjectId) → (m' c ≡ m c) ⊎ IsTrue (is_one_of q' c)
  pub stay : (c : ObjectId) → IsTrue (is_one_of q c) → IsTrue (is_one_of q' c)
  pub from : (c : ObjectId) → IsTrue (is_one_of q' c) → IsTrue (is_one_of q c) ⊎ (IsTrue (is_one_of ps c) × Has h c × HasMarksOf w (m' c))
  pub one : (c : ObjectId) → IsTrue (m' c).one → IsTrue (m c).one ⊎ (IsTrue w.one × IsTrue (is_one_of ps c) × Has h c)
  pub two : (c : ObjectId) → IsTrue (m' c).two → IsTrue (m c).two ⊎ (IsTrue w.two × IsTrue (is_one_of ps c) × Has h c)
  pub stale : (c : ObjectId) → IsTrue (m' c).stale → IsTrue (m c).stale ⊎ (IsTrue w.stale × IsTrue (is_one_of ps c) × Has h c)
  pub gets : (p : ObjectId) → IsTrue (is_one_of ps p) → Has h p → HasMarksOf w (m' p)
  pub spends : (ids : List ObjectId) → Covers ids m' → length q' + total ids m ≤ length q + total ids m'

-- The results after commit c is popped.
abbrev pub results_after : (ObjectId → MarkSet) → ObjectId → List ObjectId → List ObjectId
results_after m c results = cond (becomes_result (m c)) (results ++ c ∷ []) results

-- The marks m' are the marks m after commit c is popped: c is a result if its marks say so.
pub record Notes (m : ObjectId → MarkSet) (c : ObjectId) (m' : ObjectId → MarkSet) : Type 0 where
  pub same : (p : ObjectId) → ((m' p).one ≡ (m p).one) × ((m' p).two ≡ (m p).two) × ((m' p).stale ≡ (m p).stale)
  pub result : (p : ObjectId) → (m' p).result ≡ (cond (same_id p c) (becomes_result (m c)) false || (m p).result)

-- The commit id gets the marks w and is queued, if the history has it.
pub record Begins (h : History) (w : MarkSet) (id : ObjectId) (m : ObjectId → MarkSet) (q : List ObjectId) (m' : ObjectId → MarkSet) (q' : List ObjectId) : Type 0 where
  pub marks : (c : ObjectId) → m' c ≡ cond (same_id id c && is_some (entry_at h id)) (joined w (m c)) (m c)
  pub queue : IsPermutation (cond (is_some (entry_at h id)) (id ∷ q) q) q'

-- The marks and the queue before the first pop, for the arguments f and os.
pub record Begun (h : History) (f : ObjectId) (os : List ObjectId) (m : ObjectId → MarkSet) (q : List ObjectId) : Type 0 where
  pub one : (c : ObjectId) → (m c).one ≡ (same_id f c && is_some (entry_at h f))
  pub two : (c : ObjectId) → (m c).two ≡ (is_one_of os c && is_some (entry_at h c))
  pub stale : (c : ObjectId) → (m c).stale ≡ false
  pub result : (c : ObjectId) → (m c).result ≡ false
  pub inside : (c : ObjectId) → is_one_of q c ≡ ((m c).one || (m c).two)
  pub len : length q ≤ 1 + length os

-- The popped commit id is noted, and hands its marks on to its parents.
abbrev pub Steps : History → ObjectId → (ObjectId → MarkSet) → List ObjectId → (ObjectId → MarkSet) → List ObjectId → Type 0
Steps h id m q m' q' = (m1 : ObjectId → MarkSet) × Notes m id m1 × Hands h (handed_on (m id)) (parents_in (entry_at h id)) m1 q m' q'
