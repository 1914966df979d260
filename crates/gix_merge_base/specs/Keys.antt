-- The order of commits by generation number, then time, then id: git's technical/commit-graph,
-- "generation number".
use Rattle.std.specs.Prelude.{◌≡◌, ◌<◌, ◌≤◌, List, [], ◌∷◌, IsTrue, ◌⊎◌, ◌<ℤ◌, ◌≤ℤ◌}
use Rattle.std.specs.List.Sorted.{IsStrictlySortedBy}
use Rattle.std.specs.Ordering.{nat_cmp, int_cmp, ordering_then}
use Rattle.std.specs.Cmp.Lexicographic.{slice_cmp}
use Rattle.std.specs.declared.cmp.Ordering.{Ordering}
use Rattle.gix_revwalk.specs.History.{History, IsEdge, is_one_of, generation_of, time_of}
use Rattle.gix_base.specs.declared.hash.ObjectId.{ObjectId}

-- The key of a is less than the key of b: a has the smaller generation number, or the same one and
-- the earlier time (git's technical/commit-graph, "generation number").
abbrev pub KeyBelow : History → ObjectId → ObjectId → Type 0
KeyBelow h a b =
    (generation_of h a < generation_of h b)
    ⊎ ((generation_of h a ≡ generation_of h b) × (time_of h a <ℤ time_of h b))

-- The key of a is at most the key of b: a has the smaller generation number, or the same one and no
-- later time.
abbrev pub KeyAtMost : History → ObjectId → ObjectId → Type 0
KeyAtMost h a b =
    (generation_of h a < generation_of h b)
    ⊎ ((generation_of h a ≡ generation_of h b) × (time_of h a ≤ℤ time_of h b))

-- On every edge of the history, the parent's key is less than the child's.
abbrev pub KeysFall : History → Type 0
KeysFall h = (a b : ObjectId) → IsEdge h a b → KeyBelow h b a

-- On every edge of the history, the parent has neither a greater generation number nor a later time
-- than the child.
abbrev pub NoneRises : History → Type 0
NoneRises h =
    (a b : ObjectId) → IsEdge h a b
    → (generation_of h b ≤ generation_of h a) × (time_of h b ≤ℤ time_of h a)

-- In the list, no later id has a greater key than an earlier one.
abbrev pub InFallingOrder : History → List ObjectId → Type 0
InFallingOrder h [] = Unit {0}
InFallingOrder h (x ∷ xs) =
    ((y : ObjectId) → IsTrue (is_one_of xs y) → KeyAtMost h y x) × InFallingOrder h xs

-- The answer is `Less` if x is listed before y: x has the greater generation number, then the
-- greater time, then the smaller id (git's technical/commit-graph, "generation number").
abbrev pub choice : History → ObjectId → ObjectId → Ordering
choice h x y =
    ordering_then (nat_cmp (generation_of h y) (generation_of h x))
    (ordering_then (int_cmp (time_of h y) (time_of h x)) (slice_cmp nat_cmp x.0 y.0))

-- The order of answers: each id is listed before all later ones, by `choice`.
abbrev pub IsInOrder : History → List ObjectId → Type 0
IsInOrder h ids = IsStrictlySortedBy (choice h) ids
