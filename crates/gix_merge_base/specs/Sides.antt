-- What only one of two sides reaches, as far as a walk can tell that ends early.
use Rattle.std.specs.Prelude.{List, Bool, ◌&&◌, not, IsTrue}
use Rattle.gix_base.specs.declared.hash.ObjectId.{ObjectId}
use Rattle.gix_revwalk.specs.History.{History, IsAncestor, IsAncestorOfOne, is_one_of}
use Rattle.gix_merge_base.specs.Marks.{MarkSet}

-- Only the first side is known to reach a commit with the marks m.
abbrev pub is_one_alone : MarkSet → Bool
is_one_alone m = m.one && not m.two

-- Only the second side is known to reach a commit with the marks m.
abbrev pub is_two_alone : MarkSet → Bool
is_two_alone m = m.two && not m.one

-- What the marks m and the list of popped commits say once painting from f and os has ended. What
-- only one side reaches has its mark, and was popped.
pub record HasPopped (h : History) (f : ObjectId) (os : List ObjectId) (m : ObjectId → MarkSet) (popped : List ObjectId) : Type 0 where
  pub one : (c : ObjectId) → IsTrue (m c).one → IsAncestor h f c
  pub two : (c : ObjectId) → IsTrue (m c).two → IsAncestorOfOne h os c
  pub first : (c : ObjectId) → IsAncestor h f c → (¬ IsAncestorOfOne h os c) → IsTrue (m c).one × IsTrue (is_one_of popped c)
  pub second : (c : ObjectId) → IsAncestorOfOne h os c → (¬ IsAncestor h f c) → IsTrue (m c).two × IsTrue (is_one_of popped c)

-- The list ids has each commit that the included commits reach and the excluded ones do not, and
-- only commits that the included ones reach.
pub record CoversSide (h : History) (included excluded ids : List ObjectId) : Type 0 where
  pub every : (c : ObjectId) → IsAncestorOfOne h included c → (¬ IsAncestorOfOne h excluded c) → IsTrue (is_one_of ids c)
  pub from : (c : ObjectId) → IsTrue (is_one_of ids c) → IsAncestorOfOne h included c
