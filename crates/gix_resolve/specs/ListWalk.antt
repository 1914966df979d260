-- A walk that lists commits by their numbers, and marks exactly those that it has listed.
use Rattle.std.specs.Prelude.{◌≡◌, ◌↔◌, List, ◌++◌, IsTrue, is_some}
use Rattle.std.specs.List.{IsDistinct}
use Rattle.gix_base.specs.declared.hash.ObjectId.{ObjectId}
use Rattle.gix_revwalk.specs.History.{History, Has, IsEdge, IsAncestorOfOne, is_one_of, same_id}
use Rattle.gix_revwalk.specs.Graph.{Graphed}
use Rattle.gix_revwalk.specs.Data.{mark_at}
use Rattle.gix_revwalk.specs.declared.graph.commit.Commit.{Commit}
use Rattle.gix_revwalk.specs.declared.numbers.Number.{Number}
use Rattle.gix_revwalk.specs.Sizes.{Lists}
use Rattle.gix_merge_base.specs.PaintQueue.{ids_at, AreIn}

-- The walk has marked exactly the commits with the numbers ns.
pub record AreMarked {S D A : Type 0} (g : Graphed S (Commit D A)) (ns : List Number) : Type 0 where
  pub inside : AreIn g ns
  pub marks : (q : ObjectId) → is_some (mark_at g q) ≡ is_one_of (ids_at g ns) q

-- Each of the ids is in history h and occurs once, and their parents in h are among them.
pub record AreClosed (h : History) (ids : List ObjectId) : Type 0 where
  pub once : IsDistinct same_id ids
  pub has : (q : ObjectId) → IsTrue (is_one_of ids q) → Has h q
  pub closed : (a b : ObjectId) → IsTrue (is_one_of ids a) → IsEdge h a b → IsTrue (is_one_of ids b)

-- The list ys is xs, followed by the ancestors of starts that are not in xs.
abbrev pub Adds : History → (starts xs ys : List ObjectId) → Type 0
Adds h starts xs ys =
    (more : List ObjectId) × (ys ≡ xs ++ more)
    × ((c : ObjectId) → IsTrue (is_one_of more c) ↔ (IsAncestorOfOne h starts c × (¬ IsTrue (is_one_of xs c))))

-- The list ns has the numbers in graph g of exactly the members of set P, each once.
abbrev pub AreJust : {S T : Type 0} → Graphed S T → List Number → (ObjectId → Type 0) → Type 0
AreJust g ns P = AreIn g ns × Lists (ids_at g ns) P
