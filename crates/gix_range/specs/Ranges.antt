-- What some commits reach and others do not (git-rev-list, "Description").
use Rattle.std.specs.Prelude.{List, IsTrue}
use Rattle.std.specs.List.{IsDistinct}
use Rattle.gix_base.specs.declared.hash.ObjectId.{ObjectId}
use Rattle.gix_revwalk.specs.History.{History, Has, IsAncestorOfOne, is_one_of, same_id, IsBeyond}
use Rattle.gix_merge_base.specs.Premises.{IsAcyclicFrom}

-- The list ids has each commit that the included commits reach and the excluded ones do not, and
-- only commits that the included ones reach, each once.
pub record Covers (h : History) (included excluded ids : List ObjectId) : Type 0 where
  pub once : IsDistinct same_id ids
  pub every : (c : ObjectId) → IsBeyond h excluded included c → IsTrue (is_one_of ids c)
  pub from : (c : ObjectId) → IsTrue (is_one_of ids c) → IsAncestorOfOne h included c

-- The excluded commits reach each of the ids that the history has.
abbrev pub AreReached : History → (excluded ids : List ObjectId) → Type 0
AreReached h excluded ids = (c : ObjectId) → IsTrue (is_one_of ids c) → Has h c → IsAncestorOfOne h excluded c

-- The list has each commit that the ids reach, and of what the history has nothing else.
pub record AreAll (h : History) (ids all : List ObjectId) : Type 0 where
  pub reached : AreReached h ids all
  pub every : (c : ObjectId) → IsAncestorOfOne h ids c → IsTrue (is_one_of all c)

-- The list kept has those candidates that the excluded commits do not reach, each once. If the
-- history has the candidates, and the excluded commits reach no cycle, it has no others.
pub record Keeps (h : History) (candidates excluded kept : List ObjectId) : Type 0 where
  pub once : IsDistinct same_id kept
  pub among : (c : ObjectId) → IsTrue (is_one_of kept c) → IsTrue (is_one_of candidates c)
  pub every : (c : ObjectId) → IsTrue (is_one_of candidates c) → Has h c → (¬ IsAncestorOfOne h excluded c) → IsTrue (is_one_of kept c)
  pub exact : ((c : ObjectId) → IsTrue (is_one_of candidates c) → Has h c) → IsAcyclicFrom h excluded
      → (c : ObjectId) → IsTrue (is_one_of kept c) → ¬ IsAncestorOfOne h excluded c

-- The list hidden has only commits that the excluded ones reach, of those that the history has. If
-- the excluded commits reach no cycle, it has each candidate that they reach.
pub record Hides (h : History) (candidates excluded hidden : List ObjectId) : Type 0 where
  pub reached : AreReached h excluded hidden
  pub every : IsAcyclicFrom h excluded → (c : ObjectId) → IsTrue (is_one_of candidates c) → IsAncestorOfOne h excluded c → IsTrue (is_one_of hidden c)
