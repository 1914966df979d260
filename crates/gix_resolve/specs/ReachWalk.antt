-- A walk from two sides, over the numbers of a graph.
use Rattle.std.specs.Prelude.{◌≡◌, ◌≤◌, ℕ, Bool, List, IsTrue, is_some, not, true, false, length, ◌+◌, cond, ◌∷◌, ◌⊎◌}
use Rattle.std.specs.List.{IsDistinct, AllByRecursion, sum_by}
use Rattle.std.specs.List.Sorted.{IsPermutation}
use Rattle.gix_base.specs.declared.hash.ObjectId.{ObjectId}
use Rattle.gix_revwalk.specs.History.{History, generation_of, is_one_of, same_id}
use Rattle.gix_revwalk.specs.Graph.{Graphed}
use Rattle.gix_revwalk.specs.Data.{mark_at}
use Rattle.gix_revwalk.specs.Number.{place_in}
use Rattle.gix_revwalk.specs.declared.graph.commit.Commit.{Commit}
use Rattle.gix_revwalk.specs.declared.numbers.Number.{Number}
use Rattle.gix_merge_base.specs.Counting.{times}
use Rattle.gix_merge_base.specs.Marks.{MarkSet, level, joined}
use Rattle.gix_merge_base.specs.PaintQueue.{id_at, ids_at, AreIn, AreHeld, marks_at, queued_at, queued_ids}
use Rattle.gix_merge_base.specs.declared.merge_base.flags.Flags.{Flags}
use Rattle.gix_resolve.specs.ReachSides.{hides}
use Rattle.gix_resolve.specs.declared.reach.walk.Walk.{Walk}

-- The walk has met the commits with the numbers ns, each once. Each of them has a mark, and every
-- commit that has a mark and is not hidden is among them.
pub record AreMet {S A : Type 0} (both : Bool) (g : Graphed S (Commit Flags A)) (ns : List Number) : Type 0 where
  pub inside : AreIn g ns
  pub marked : (q : ObjectId) → IsTrue (is_one_of (ids_at g ns) q) → is_some (mark_at g q) ≡ true
  pub every : (q : ObjectId) → is_some (mark_at g q) ≡ true → hides both (marks_at g q) ≡ false → IsTrue (is_one_of (ids_at g ns) q)
  pub once : IsDistinct same_id (ids_at g ns)

-- The key of each number in ps is the generation number of its commit.
abbrev pub AreKeyed : {S T : Type 0} → History → Graphed S T → List (ℕ × Number) → Type 0
AreKeyed h g ps = AllByRecursion (λ p. p.0 ≡ generation_of h (id_at g (place_in p.1))) ps

-- The number of entries of q whose commit is not hidden.
abbrev pub count_unhidden : Bool → (ObjectId → MarkSet) → List ObjectId → ℕ
count_unhidden both m q = sum_by (λ x. level (not (hides both (m x)))) q

-- The function n says how often each commit that is not hidden occurs in q, and k is the number of
-- all these entries.
pub record Tells (both : Bool) (m : ObjectId → MarkSet) (n : ObjectId → ℕ) (q : List ObjectId) (k : ℕ) : Type 0 where
  pub unhidden : k ≡ count_unhidden both m q
  pub times : (c : ObjectId) → hides both (m c) ≡ false → n c ≡ times c q

-- If n is 0, the list rs is ps with the number under its key, in any order. Otherwise rs is ps.
abbrev pub Opens : ℕ → ℕ → Number → (ps rs : List (ℕ × Number)) → Type 0
Opens n key number ps rs =
    ((n ≡ 0) × IsPermutation ((key, number) ∷ ps) rs) ⊎ ((1 ≤ n) × (rs ≡ ps))

-- The list rs is ps with the number under its key, in any order, or rs is ps and n is at least 1.
abbrev pub Reopens : ℕ → ℕ → Number → (ps rs : List (ℕ × Number)) → Type 0
Reopens n key number ps rs = IsPermutation ((key, number) ∷ ps) rs ⊎ ((1 ≤ n) × (rs ≡ ps))

-- What the walk w keeps agrees with the marks of its graph g.
pub record IsRight {S A B : Type 0} (h : History) (g : Graphed S (Commit Flags A)) (w : Walk B) : Type 0 where
  pub met : AreMet w.both g w.met.items
  pub held : AreHeld g w.front
  pub keyed : AreKeyed h g w.front
  pub tells : Tells w.both (marks_at g) (queued_at g) (queued_ids g w.front) w.unhidden

-- The walk w with one more open commit: the number under its key.
abbrev pub with_open : {A : Type 0} → ℕ → Number → Walk A → Walk A
with_open key number w = record { both = w.both; met = w.met; front = (key, number) ∷ w.front; unhidden = w.unhidden; least = w.least }

-- The walks v and w have the same `both` and the same `least`.
abbrev pub SameSides : {A : Type 0} → Walk A → Walk A → Type 0
SameSides v w = (w.both ≡ v.both) × (w.least ≡ v.least)

-- The marks w were added to those of id, which is open now.
pub record Enters (w : MarkSet) (id : ObjectId) (m : ObjectId → MarkSet) (q : List ObjectId) (m' : ObjectId → MarkSet) (q' : List ObjectId) : Type 0 where
  pub marks : (c : ObjectId) → m' c ≡ cond (same_id id c) (joined w (m c)) (m c)
  pub inside : (c : ObjectId) → is_one_of q' c ≡ is_one_of (id ∷ q) c
  pub len : length q' ≤ 1 + length q
