-- Merge bases: git-merge-base, "Description" and "Discussion".
use Rattle.std.specs.Prelude.{◌≡◌, ◌↔◌, List, [], Bool, IsTrue, ◌||◌, MatchBool}
use Rattle.std.specs.Prelude.{Option, Some, None}
use Rattle.gix_base.specs.NonEmpty.{all_of}
use Rattle.gix_base.specs.declared.error.NonEmpty.{NonEmpty}
use Rattle.gix_base.specs.declared.hash.ObjectId.{ObjectId}
use Rattle.gix_revwalk.specs.History.{History, is_one_of, IsAncestor, IsAncestorOfOne}
use Rattle.gix_revwalk.specs.Sizes.{is_empty}

-- Commit c is a common ancestor of f and os if it is an ancestor of f and of at least one of os
-- (git-merge-base, "Discussion").
abbrev pub IsCommon : History → ObjectId → List ObjectId → ObjectId → Type 0
IsCommon h f os c = IsAncestor h f c × IsAncestorOfOne h os c

-- Commit c is maximal in the set S if c is in S and no other member of S has c as an ancestor
-- (git-merge-base, "Description").
abbrev pub IsMaximal : History → (ObjectId → Type 0) → ObjectId → Type 0
IsMaximal h S c = S c × ((t : ObjectId) → S t → IsAncestor h t c → t ≡ c)

-- A call for f and os is trivial if os is empty or contains f: then nothing has to be looked up.
abbrev pub is_trivial : ObjectId → List ObjectId → Bool
is_trivial f os = is_empty os || is_one_of os f

-- If os is empty or contains f, then x is a merge base exactly if x is f. Otherwise x is a merge
-- base exactly if x is maximal among the common ancestors of f and os (git-merge-base,
-- "Description" and "Discussion").
abbrev pub IsBase : History → ObjectId → List ObjectId → ObjectId → Type 0
IsBase h f os x = MatchBool (is_trivial f os) (x ≡ f) (IsMaximal h (IsCommon h f os) x)

-- The members of ids are exactly the merge bases of f and os.
abbrev pub AreBases : History → ObjectId → List ObjectId → List ObjectId → Type 0
AreBases h f os ids = (c : ObjectId) → IsTrue (is_one_of ids c) ↔ IsBase h f os c

-- Every maximal common ancestor is in ids, and every id in ids is a common ancestor.
pub record CoverBases (h : History) (f : ObjectId) (os ids : List ObjectId) : Type 0 where
  pub every : (c : ObjectId) → IsMaximal h (IsCommon h f os) c → IsTrue (is_one_of ids c)
  pub common : (c : ObjectId) → IsTrue (is_one_of ids c) → IsCommon h f os c

-- The ids of an answer. If the answer has no list, there are none.
abbrev pub ids_of : {A : Type 0} → Option (NonEmpty ObjectId A) → List ObjectId
ids_of None = []
ids_of (Some list) = all_of list
