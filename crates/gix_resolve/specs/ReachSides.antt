-- A walk from two sides. Wanted is what only the first side reaches and, if `both` is set, also
-- what only the second side reaches.
use Rattle.std.specs.Prelude.{◌≡◌, ◌<◌, ◌≤◌, ◌+◌, ℕ, min, length, Bool, true, false, List, ◌∷◌, ◌++◌, IsTrue, ◌&&◌, not, cond, ◌⊎◌}
use Rattle.std.specs.List.{IsDistinct}
use Rattle.std.specs.List.Sorted.{IsPermutation}
use Rattle.gix_base.specs.declared.hash.ObjectId.{ObjectId}
use Rattle.gix_revwalk.specs.History.{History, Has, IsEdge, IsAncestorOfOne, generation_of, is_one_of, same_id, IsBeyond}
use Rattle.gix_revwalk.specs.Sizes.{HasSize, AtLeast, AtMost}
use Rattle.gix_merge_base.specs.Marks.{MarkSet, HasMarksOf}
use Rattle.gix_merge_base.specs.PaintSteps.{Covers, total}
use Rattle.gix_merge_base.specs.Premises.{GenerationsNeverRiseFrom}

-- A commit with the marks m is not wanted, whatever further marks it gets.
abbrev pub hides : Bool → MarkSet → Bool
hides true m = m.one && m.two
hides false m = m.two

-- A commit with the marks m, and no further ones, is wanted.
abbrev pub shows : Bool → MarkSet → Bool
shows both m = cond m.one (not m.two) (both && m.two)

-- Only the first side reaches a commit with the marks m.
abbrev pub is_first_alone : MarkSet → Bool
is_first_alone m = m.one && not m.two

-- Only the second side reaches a commit with the marks m.
abbrev pub is_second_alone : MarkSet → Bool
is_second_alone m = m.two && not m.one

-- The marks w were handed to those ps that the history has, except hidden ones. A commit that
-- lacked one of the marks was opened.
pub record Gives (h : History) (both : Bool) (w : MarkSet) (ps : List ObjectId) (m : ObjectId → MarkSet) (q : List ObjectId) (m' : ObjectId → MarkSet) (q' : List ObjectId) : Type 0 where
  pub more : (c : ObjectId) → HasMarksOf (m c) (m' c)
  pub changed : (c : ObjectId) → (m' c ≡ m c) ⊎ IsTrue (is_one_of q' c)
  pub stay : (c : ObjectId) → IsTrue (is_one_of q c) → IsTrue (is_one_of q' c)
  pub from : (c : ObjectId) → IsTrue (is_one_of q' c) → IsTrue (is_one_of q c) ⊎ (IsTrue (is_one_of ps c) × Has h c)
  pub one : (c : ObjectId) → IsTrue (m' c).one → IsTrue (m c).one ⊎ (IsTrue w.one × IsTrue (is_one_of ps c) × Has h c)
  pub two : (c : ObjectId) → IsTrue (m' c).two → IsTrue (m c).two ⊎ (IsTrue w.two × IsTrue (is_one_of ps c) × Has h c)
  pub stale : (c : ObjectId) → IsTrue (m' c).stale → IsTrue (m c).stale ⊎ (IsTrue w.stale × IsTrue (is_one_of ps c) × Has h c)
  pub gets : (p : ObjectId) → IsTrue (is_one_of ps p) → Has h p → HasMarksOf w (m' p) ⊎ IsTrue (hides both (m' p))
  pub spends : (ids : List ObjectId) → Covers ids m' → length q' + total ids m ≤ length q + total ids m'

-- The state between two steps of a walk from the sides xs and ys. The marks are m, the open commits
-- are q, and bound is at most the generation number of each commit that is wanted by its marks and
-- not open.
pub record Walked (h : History) (xs ys : List ObjectId) (both : Bool) (m : ObjectId → MarkSet) (q : List ObjectId) (bound : ℕ) : Type 0 where
  pub one : (c : ObjectId) → IsTrue (m c).one → IsAncestorOfOne h xs c
  pub two : (c : ObjectId) → IsTrue (m c).two → IsAncestorOfOne h ys c
  pub fresh : (c : ObjectId) → (m c).stale ≡ false
  pub from : (c : ObjectId) → IsTrue (is_one_of q c) → IsAncestorOfOne h (xs ++ ys) c
  pub begun_one : (c : ObjectId) → IsTrue (is_one_of xs c) → Has h c → IsTrue (m c).one ⊎ IsTrue (hides both (m c))
  pub begun_two : (c : ObjectId) → IsTrue (is_one_of ys c) → Has h c → IsTrue (m c).two
  -- A commit that is not open has handed its marks on, except to parents that are hidden.
  pub on_one : (c p : ObjectId) → is_one_of q c ≡ false → IsEdge h c p → IsTrue (m c).one → IsTrue (m p).one ⊎ IsTrue (hides both (m p))
  pub on_two : (c p : ObjectId) → is_one_of q c ≡ false → IsEdge h c p → IsTrue (m c).two → IsTrue (m p).two
  pub least : (c : ObjectId) → is_one_of q c ≡ false → IsTrue (shows both (m c)) → bound ≤ generation_of h c

-- Each open commit of q is hidden, and its generation number is less than `least`.
abbrev pub IsOver : History → Bool → (ObjectId → MarkSet) → List ObjectId → ℕ → Type 0
IsOver h both m q least = (c : ObjectId) → IsTrue (is_one_of q c) → IsTrue (hides both (m c)) × (generation_of h c < least)

-- One entry of the commit id leaves the open commits q, of which r remain. If id is not hidden,
-- next is the lesser of bound and its generation number, otherwise it is bound.
pub record Takes (h : History) (both : Bool) (id : ObjectId) (m : ObjectId → MarkSet) (q : List ObjectId) (bound : ℕ) (r : List ObjectId) (next : ℕ) : Type 0 where
  pub queue : IsPermutation q (id ∷ r)
  pub least : next ≡ cond (hides both (m id)) bound (min bound (generation_of h id))

-- At the end of a walk from the sides xs and ys, the marks m of a commit are only of sides that
-- reach it. Each commit that only xs reaches has only the first mark. If `both` is set, each commit
-- that only ys reaches has only the second mark. With ordered generations, no other commit has only
-- the first mark or, if `both` is set, only the second.
pub record Sees (h : History) (xs ys : List ObjectId) (both : Bool) (m : ObjectId → MarkSet) : Type 0 where
  pub one : (c : ObjectId) → IsTrue (m c).one → IsAncestorOfOne h xs c
  pub two : (c : ObjectId) → IsTrue (m c).two → IsAncestorOfOne h ys c
  pub first : (c : ObjectId) → IsBeyond h ys xs c → IsTrue (is_first_alone (m c))
  pub second : IsTrue both → (c : ObjectId) → IsBeyond h xs ys c → IsTrue (is_second_alone (m c))
  pub no_second : GenerationsNeverRiseFrom h (xs ++ ys) → (c : ObjectId) → IsTrue (is_first_alone (m c)) → ¬ IsAncestorOfOne h ys c
  pub no_first : GenerationsNeverRiseFrom h (xs ++ ys) → IsTrue both → (c : ObjectId) → IsTrue (is_second_alone (m c)) → ¬ IsAncestorOfOne h xs c

-- The list ids has each commit that only the first side xs reaches, once. If a generation number
-- rises it may have more of what xs reaches.
pub record ListsFirst (h : History) (xs ys : List ObjectId) (ids : List ObjectId) : Type 0 where
  pub once : IsDistinct same_id ids
  pub every : (c : ObjectId) → IsBeyond h ys xs c → IsTrue (is_one_of ids c)
  pub may : (c : ObjectId) → IsTrue (is_one_of ids c) → IsAncestorOfOne h xs c
  pub exact : GenerationsNeverRiseFrom h (xs ++ ys) → (c : ObjectId) → IsTrue (is_one_of ids c) → IsBeyond h ys xs c

-- The list ids has each commit that exactly one of the sides xs and ys reaches, once. If a
-- generation number rises it may have more.
pub record ListsEither (h : History) (xs ys : List ObjectId) (ids : List ObjectId) : Type 0 where
  pub once : IsDistinct same_id ids
  pub every : (c : ObjectId) → IsBeyond h ys xs c ⊎ IsBeyond h xs ys c → IsTrue (is_one_of ids c)
  pub exact : GenerationsNeverRiseFrom h (xs ++ ys) → (c : ObjectId) → IsTrue (is_one_of ids c) → IsBeyond h ys xs c ⊎ IsBeyond h xs ys c

-- The number n counts the commits that only the first side xs reaches. If both sides are wanted, k
-- counts the commits that only the second side ys reaches. If a generation number rises, n and k
-- may be greater, but no greater than the numbers of commits that xs and ys reach.
pub record CountsSides (h : History) (xs ys : List ObjectId) (both : Bool) (n k : ℕ) : Type 0 where
  pub first : GenerationsNeverRiseFrom h (xs ++ ys) → HasSize (IsBeyond h ys xs) n
  pub first_no_less : AtMost n (IsBeyond h ys xs)
  pub first_no_more : AtLeast n (IsAncestorOfOne h xs)
  pub second : GenerationsNeverRiseFrom h (xs ++ ys) → IsTrue both → HasSize (IsBeyond h xs ys) k
  pub second_no_less : IsTrue both → AtMost k (IsBeyond h xs ys)
  pub second_no_more : IsTrue both → AtLeast k (IsAncestorOfOne h ys)
