-- How many queue entries are of a commit that is not stale.
use Rattle.std.specs.Prelude.{◌≡◌, ℕ, List, not, cond, false, ◌+◌, ◌-◌}
use Rattle.std.specs.List.{sum_by}
use Rattle.gix_base.specs.declared.hash.ObjectId.{ObjectId}
use Rattle.gix_revwalk.specs.History.{same_id}
use Rattle.gix_revwalk.specs.declared.numbers.Mark.{Mark}
use Rattle.gix_merge_base.specs.Marks.{MarkSet, marks_of, level}
use Rattle.gix_merge_base.specs.declared.merge_base.flags.Flags.{Flags}

-- How often c occurs in q.
abbrev pub times : ObjectId → List ObjectId → ℕ
times c q = sum_by (λ x. level (same_id c x)) q

-- How many entries of q are of a commit that is not stale by the marks m.
abbrev pub unstale : (ObjectId → MarkSet) → List ObjectId → ℕ
unstale m q = sum_by (λ x. level (not (m x).stale)) q

-- For each commit, n is how often it occurs in q, and open_entries is how many entries of q are of
-- a commit that is not stale.
pub record Counts (m : ObjectId → MarkSet) (n : ObjectId → ℕ) (q : List ObjectId) (open_entries : ℕ) : Type 0 where
  pub unstale : open_entries ≡ unstale m q
  pub times : (c : ObjectId) → n c ≡ times c q

-- The number unmet is how many of ids are not stale. For each commit that is not stale, n is how
-- often it occurs in ids.
pub record CountsUnmet (m : ObjectId → MarkSet) (n : ObjectId → ℕ) (ids : List ObjectId) (unmet : ℕ) : Type 0 where
  pub unstale : unmet ≡ unstale m ids
  pub times : (c : ObjectId) → (m c).stale ≡ false → n c ≡ times c ids

-- The count n after one more entry is queued, of a commit that had the mark a and now has the marks
-- w.
abbrev pub open_then : ℕ → Mark Flags → Flags → ℕ
open_then n a w = cond (not (marks_of w).stale) (n + 1) (cond (marks_of a.marks).stale n (n - a.queued))
