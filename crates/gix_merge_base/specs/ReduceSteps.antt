-- The steps of the reduction.
use Rattle.std.specs.Prelude.{◌≡◌, ◌⊎◌, ◌<◌, ◌≤◌, ℕ, List, [], IsTrue, false}
use Rattle.std.specs.List.{All, AllWithin}
use Rattle.std.specs.List.Sorted.{IsNonDecreasingBy}
use Rattle.gix_base.specs.declared.hash.ObjectId.{ObjectId}
use Rattle.gix_revwalk.specs.History.{History, Has, IsEdge, IsAncestor, is_one_of, generation_of}
use Rattle.gix_revwalk.specs.Graph.{Graphed, held_len}
use Rattle.gix_revwalk.specs.Number.{place_in}
use Rattle.gix_revwalk.specs.declared.numbers.Number.{Number}
use Rattle.gix_merge_base.specs.Marks.{MarkSet, marks_in}
use Rattle.gix_merge_base.specs.PaintQueue.{id_at}

-- Commit c is an ancestor of a parent of one of ids.
abbrev pub IsBelow : History → List ObjectId → ObjectId → Type 0
IsBelow h ids c = (r : ObjectId) × IsTrue (is_one_of ids r) × (p : ObjectId) × IsEdge h r p × IsAncestor h p c

-- What holds between two pops of the reduction of ids, for the marks m and the queue q.
pub record Reducing (h : History) (ids : List ObjectId) (m : ObjectId → MarkSet) (q : List ObjectId) : Type 0 where
  -- a commit that was met is an ancestor of a parent of one of ids
  pub sound : (c : ObjectId) → IsTrue (m c).stale → IsBelow h ids c
  pub begun : (r p : ObjectId) → IsTrue (is_one_of ids r) → IsEdge h r p → IsTrue (m p).stale
  pub queued : (c : ObjectId) → IsTrue (is_one_of q c) → IsTrue (m c).stale
  -- a commit that was met is queued, or its parents were met, or its generation number is less than
  -- that of each id that was not met
  pub settled : (c : ObjectId) → IsTrue (m c).stale
      → IsTrue (is_one_of q c) ⊎ (((p : ObjectId) → IsEdge h c p → IsTrue (m p).stale) ⊎ ((r : ObjectId) → IsTrue (is_one_of ids r) → (m r).stale ≡ false → generation_of h c < generation_of h r))
  pub has : (c : ObjectId) → 1 ≤ marks_in (m c) → Has h c

-- At most one of ids was not met.
abbrev pub Alike : List ObjectId → (ObjectId → MarkSet) → Type 0
Alike ids m = (a b : ObjectId) → IsTrue (is_one_of ids a) → (m a).stale ≡ false → IsTrue (is_one_of ids b) → (m b).stale ≡ false → a ≡ b

-- The walk has ended with an empty queue, or at most one of ids was not met.
abbrev pub Reduced : History → List ObjectId → (ObjectId → MarkSet) → Type 0
Reduced h ids m = Reducing h ids m [] ⊎ ((q : List ObjectId) × Reducing h ids m q × Alike ids m)

-- No commit has a mark of a side, or is stale.
abbrev pub Unmarked : (ObjectId → MarkSet) → Type 0
Unmarked m = (c : ObjectId) → ((m c).one ≡ false) × ((m c).two ≡ false) × ((m c).stale ≡ false)

-- The pair p is a number of the graph with the generation number of its commit.
abbrev pub IsRanked : {S T : Type 0} → History → Graphed S T → ℕ × Number → Type 0
IsRanked h g p = (place_in p.1 < held_len g) × (p.0 ≡ generation_of h (id_at g (place_in p.1)))

-- The pairs ps are numbers of the graph by rising generation number, each with that of its commit.
pub record IsOrder {S T : Type 0} (h : History) (g : Graphed S T) (ps : List (ℕ × Number)) : Type 0 where
  pub ranked : All (IsRanked h g) ps
  pub rising : IsNonDecreasingBy (λ p. p.0) ps

-- All of ids before the place were met.
abbrev pub AreMetBefore : (ObjectId → MarkSet) → List ObjectId → ℕ → Type 0
AreMetBefore m ids place = AllWithin (λ c. IsTrue (m c).stale) ids 0 place

-- All of ids before the place were met, and none of ids that was not met has a generation number
-- below bound.
pub record IsLeft (h : History) (m : ObjectId → MarkSet) (ids : List ObjectId) (place bound : ℕ) : Type 0 where
  pub before : AreMetBefore m ids place
  pub least : (r : ObjectId) → IsTrue (is_one_of ids r) → (m r).stale ≡ false → bound ≤ generation_of h r
