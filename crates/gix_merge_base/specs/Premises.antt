-- What calls ask of the edges that leave a commit reachable from their ids. They ask nothing of the
-- other edges of a history.
use Rattle.std.specs.Prelude.{◌≤◌, List, ◌≤ℤ◌}
use Rattle.gix_base.specs.declared.hash.ObjectId.{ObjectId}
use Rattle.gix_revwalk.specs.History.{History, IsEdge, IsAncestor, IsAncestorOfOne, generation_of, time_of}
use Rattle.gix_merge_base.specs.Keys.{KeyBelow}

-- Acyclic: no commit that ids can reach is an ancestor of one of its own parents (gitglossary,
-- "DAG").
abbrev pub IsAcyclicFrom : History → List ObjectId → Type 0
IsAcyclicFrom h ids = (a b : ObjectId) → IsAncestorOfOne h ids a → IsEdge h a b → ¬ IsAncestor h b a

-- Ordered generations: for every commit that ids can reach, no parent in the history has a greater
-- generation number than the commit (git's technical/commit-graph, "generation number").
abbrev pub GenerationsNeverRiseFrom : History → List ObjectId → Type 0
GenerationsNeverRiseFrom h ids =
    (a b : ObjectId) → IsAncestorOfOne h ids a → IsEdge h a b → generation_of h b ≤ generation_of h a

-- Falling keys: for every commit that ids can reach, each parent in the history has a smaller key
-- than the commit.
abbrev pub KeysFallFrom : History → List ObjectId → Type 0
KeysFallFrom h ids = (a b : ObjectId) → IsAncestorOfOne h ids a → IsEdge h a b → KeyBelow h b a

-- Never-rising keys: for every commit that ids can reach, no parent in the history has a greater
-- generation number, or a later time, than the commit.
abbrev pub NoneRisesFrom : History → List ObjectId → Type 0
NoneRisesFrom h ids =
    (a b : ObjectId) → IsAncestorOfOne h ids a → IsEdge h a b
    → (generation_of h b ≤ generation_of h a) × (time_of h b ≤ℤ time_of h a)
