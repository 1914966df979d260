-- Which commits painting pops, and which it may load.
use Rattle.std.specs.Prelude.{◌≡◌, List, IsTrue, ◌⊎◌}
use Rattle.gix_base.specs.declared.hash.ObjectId.{ObjectId}
use Rattle.gix_revwalk.specs.History.{History, Has, IsEdge, IsAncestor, IsAncestorOfOne, is_one_of}
use Rattle.gix_merge_base.specs.Bases.{IsCommon}
use Rattle.gix_merge_base.specs.Keys.{KeyAtMost}

-- Commit c is an ancestor of f or of one of os.
abbrev pub IsReached : History → ObjectId → List ObjectId → ObjectId → Type 0
IsReached h f os c = IsAncestor h f c ⊎ IsAncestorOfOne h os c

-- Commit c is an ancestor of f or of one of os, and no other common ancestor reaches it.
abbrev pub IsUnreached : History → ObjectId → List ObjectId → ObjectId → Type 0
IsUnreached h f os c =
    IsReached h f os c × ((t : ObjectId) → IsCommon h f os t → IsAncestor h t c → t ≡ c)

-- The id x is f or one of os.
abbrev pub IsHandedIn : ObjectId → List ObjectId → ObjectId → Type 0
IsHandedIn f os x = (x ≡ f) ⊎ IsTrue (is_one_of os x)

-- The id q is f or one of os, or an ancestor of one of them.
abbrev pub MayBeMet : History → ObjectId → List ObjectId → ObjectId → Type 0
MayBeMet h f os q = IsHandedIn f os q ⊎ IsReached h f os q

-- The id q is one of ids, or an ancestor of one of them.
abbrev pub MayBeMetFrom : History → List ObjectId → ObjectId → Type 0
MayBeMetFrom h ids q = IsTrue (is_one_of ids q) ⊎ IsAncestorOfOne h ids q

-- Each of xs is one of ids, or an ancestor of one of them.
abbrev pub AreFrom : History → List ObjectId → List ObjectId → Type 0
AreFrom h ids xs = (x : ObjectId) → IsTrue (is_one_of xs x) → MayBeMetFrom h ids x

-- The id x is f or one of os, or it is a parent of a commit a that is an ancestor of one of them,
-- but not a common ancestor.
abbrev pub IsOutside : History → ObjectId → List ObjectId → ObjectId → Type 0
IsOutside h f os x =
    IsHandedIn f os x
    ⊎ ((a : ObjectId) × IsReached h f os a × (¬ IsCommon h f os a) × IsEdge h a x)

-- The id q is f or one of os, or a parent of a reachable commit c. In the second case, the history
-- has some outside commit whose key is at most that of c.
abbrev pub MayBeTaken : History → ObjectId → List ObjectId → ObjectId → Type 0
MayBeTaken h f os q =
    IsHandedIn f os q
    ⊎ ((c : ObjectId) × IsReached h f os c × IsEdge h c q
    × (x : ObjectId) × Has h x × IsOutside h f os x × KeyAtMost h x c)
