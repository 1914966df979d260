-- Lines of parents that lead down from some commits until they have become one.
use Rattle.std.specs.Prelude.{◌≡◌, ◌⊎◌, ◌∷◌, [], List, map, IsTrue}
use Rattle.gix_base.specs.declared.hash.ObjectId.{ObjectId}
use Rattle.gix_revwalk.specs.History.{History, Has, IsAncestor, IsEdge, is_one_of}
use Rattle.gix_revwalk.specs.Walks.{added}
use Rattle.gix_merge_base.specs.Premises.{IsAcyclicFrom}

-- The ids of a queue.
abbrev pub queued : {K : Type 0} → List (K × ObjectId) → List ObjectId
queued ends = map (λ end. end.1) ends

-- Each of the commits met that reaches no cycle reaches one of the ends.
abbrev pub Leads : History → (met ends : List ObjectId) → Type 0
Leads h met ends =
    (c : ObjectId) → IsTrue (is_one_of met c) → Has h c → IsAcyclicFrom h (c ∷ [])
    → (e : ObjectId) × IsTrue (is_one_of ends e) × IsAncestor h c e

-- A parent of the commit id is met.
abbrev pub Joins : History → (met : List ObjectId) → (id : ObjectId) → Type 0
Joins h met id = (p : ObjectId) × IsEdge h id p × IsTrue (is_one_of met p)

-- The commit id is met, and all ends stay. If neither id nor a parent of it was met before, then id
-- is one of the ends from now on.
pub record Extends (h : History) (met ends : List ObjectId) (id : ObjectId) (met' ends' : List ObjectId) : Type 0 where
  pub known : met' ≡ added met id
  pub stay : (c : ObjectId) → IsTrue (is_one_of ends c) → IsTrue (is_one_of ends' c)
  pub new : IsTrue (is_one_of met id) ⊎ (IsTrue (is_one_of ends' id) ⊎ Joins h met id)

-- The commit z reaches none of ids that reaches no cycle.
abbrev pub IsBelow : History → (ids : List ObjectId) → ObjectId → Type 0
IsBelow h ids z =
    (c : ObjectId) → IsTrue (is_one_of ids c) → Has h c → IsAcyclicFrom h (c ∷ []) → ¬ IsAncestor h z c
