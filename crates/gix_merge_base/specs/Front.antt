-- The queue of a walk, over the graph that has its marks, and what a step does to both. The graph
-- is g and the queue with its count is f before the step; they are g' and f' after it.
use Rattle.std.specs.Prelude.{◌≡◌, ◌≤◌, ◌∷◌, ℕ, Bool, List, IsTrue, cond}
use Rattle.std.specs.List.Sorted.{IsPermutation}
use Rattle.gix_base.specs.declared.hash.ObjectId.{ObjectId}
use Rattle.gix_revwalk.specs.Graph.{Graphed, held_ids}
use Rattle.gix_revwalk.specs.GraphAfter.{GraphAfter}
use Rattle.gix_revwalk.specs.History.{History, is_one_of, same_id}
use Rattle.gix_revwalk.specs.Walks.{HoldsMore}
use Rattle.gix_revwalk.specs.declared.graph.commit.Commit.{Commit}
use Rattle.gix_revwalk.specs.declared.numbers.Number.{Number}
use Rattle.gix_merge_base.specs.Counting.{Counts, CountsUnmet, unstale}
use Rattle.gix_merge_base.specs.Keys.{KeyAtMost}
use Rattle.gix_merge_base.specs.Marks.{MarkSet, joined}
use Rattle.gix_merge_base.specs.PaintQueue.{marks_at, queued_at, queued_ids, id_of, ids_at, IsIn, AreIn, AreHeld, Keyed}
use Rattle.gix_merge_base.specs.PaintSteps.{Hands, Begins, Begun, Steps, results_after}
use Rattle.gix_merge_base.specs.ReduceSteps.{Reducing}
use Rattle.gix_merge_base.specs.declared.merge_base.flags.Flags.{Flags}
use Rattle.gix_merge_base.specs.declared.merge_base.hand.Front.{Front}

-- Each queued number is one of the graph, and is queued under the key of its commit.
pub record IsQueued {S T A : Type 0} (h : History) (g : Graphed S T) (f : Front A) : Type 0 where
  pub held : AreHeld g f.queue
  pub keyed : Keyed h g f.queue

-- The front counts the entries whose commit is not stale.
abbrev pub CountsOpen : {S A : Type 0} → Graphed S (Commit Flags A) → Front A → Type 0
CountsOpen g f = Counts (marks_at g) (queued_at g) (queued_ids g f.queue) f.open_entries

-- The front counts those of ids that are not stale.
abbrev pub CountsLeft : {S A : Type 0} → List ObjectId → Graphed S (Commit Flags A) → Front A → Type 0
CountsLeft ids g f = CountsUnmet (marks_at g) (queued_at g) ids f.open_entries

-- The queue of painting is sound, and its count is right.
pub record IsRight {S A : Type 0} (h : History) (g : Graphed S (Commit Flags A)) (f : Front A) : Type 0 where
  pub queued : IsQueued h g f
  pub counts : CountsOpen g f

-- The commit id gets the marks w, and is queued once more.
pub record Enters {S A : Type 0} (w : MarkSet) (id : ObjectId) (g : Graphed S (Commit Flags A)) (f : Front A) (g' : Graphed S (Commit Flags A)) (f' : Front A) : Type 0 where
  pub marks : (c : ObjectId) → marks_at g' c ≡ cond (same_id id c) (joined w (marks_at g c)) (marks_at g c)
  pub queue : IsPermutation (id ∷ queued_ids g f.queue) (queued_ids g' f'.queue)

-- Those of ps that the history has get the marks w.
abbrev pub HandsOn : {S A : Type 0} → History → MarkSet → List ObjectId → Graphed S (Commit Flags A) → Front A → Graphed S (Commit Flags A) → Front A → Type 0
HandsOn h w ps g f g' f' = Hands h w ps (marks_at g) (queued_ids g f.queue) (marks_at g') (queued_ids g' f'.queue)

-- The commit id gets the marks w and is queued, if the history has it.
abbrev pub BeginsOn : {S A : Type 0} → History → MarkSet → ObjectId → Graphed S (Commit Flags A) → Front A → Graphed S (Commit Flags A) → Front A → Type 0
BeginsOn h w id g f g' f' = Begins h w id (marks_at g) (queued_ids g f.queue) (marks_at g') (queued_ids g' f'.queue)

-- The marks and the queue before the first pop are those of Begun.
abbrev pub BegunOn : {S A : Type 0} → History → ObjectId → List ObjectId → Graphed S (Commit Flags A) → Front A → Type 0
BegunOn h first others g f = Begun h first others (marks_at g) (queued_ids g f.queue)

-- The popped commit id becomes a result if its marks say so, and hands its marks on to its parents.
pub record StepsOn {S A : Type 0} (h : History) (id : ObjectId) (g : Graphed S (Commit Flags A)) (f : Front A) (before : List ObjectId) (g' : Graphed S (Commit Flags A)) (f' : Front A) (after : List ObjectId) : Type 0 where
  pub steps : Steps h id (marks_at g) (queued_ids g f.queue) (marks_at g') (queued_ids g' f'.queue)
  pub results : after ≡ results_after (marks_at g) id before

-- The marks and the queue are those between two pops of the reduction of ids.
abbrev pub ReducingOn : {S A : Type 0} → History → List ObjectId → Graphed S (Commit Flags A) → Front A → Type 0
ReducingOn h ids g f = Reducing h ids (marks_at g) (queued_ids g f.queue)

-- If the queue and a count were right before the marks w were handed on, they are right after it.
pub record Keeps {S A : Type 0} (h : History) (w : MarkSet) (g : Graphed S (Commit Flags A)) (f : Front A) (g' : Graphed S (Commit Flags A)) (f' : Front A) : Type 0 where
  pub queued : IsQueued h g f → IsQueued h g' f'
  pub counts : CountsOpen g f → CountsOpen g' f'
  pub left : IsTrue w.stale → (ids : List ObjectId) → CountsLeft ids g f → CountsLeft ids g' f'

-- The pop removes the entry n, of a commit with a greatest key, from a queue with an entry that is
-- not stale. All other entries stay, also those of the same commit, and so do all marks.
pub record Pops {S A : Type 0} (h : History) (n : Number) (g : Graphed S (Commit Flags A)) (f : Front A) (g' : Graphed S (Commit Flags A)) (f' : Front A) : Type 0 where
  pub some : 1 ≤ unstale (marks_at g) (queued_ids g f.queue)
  pub inside : IsIn g' n
  pub queue : IsPermutation (queued_ids g f.queue) (id_of g n ∷ queued_ids g' f'.queue)
  pub top : (z : ObjectId) → IsTrue (is_one_of (queued_ids g f.queue) z) → KeyAtMost h z (id_of g n)
  pub marks : (c : ObjectId) → marks_at g' c ≡ marks_at g c
  pub right : IsRight h g' f'

-- Graph g' holds the same commits as g, in the same places, and has the same source.
pub record HoldsSame {S T : Type 0} (g g' : Graphed S T) : Type 0 where
  pub source : g'.source ≡ g.source
  pub ids : held_ids g' ≡ held_ids g

-- Each number of g is a number of g', of the same commit.
abbrev pub KeepsNumbers : {S T : Type 0} → Graphed S T → Graphed S T → Type 0
KeepsNumbers g g' = (ns : List Number) → AreIn g ns → AreIn g' ns × (ids_at g' ns ≡ ids_at g ns)

module _ {S T R : Type 0} (history : S → History) (faults : S → ℕ) (is_fault : R → Bool) where
  -- The graph after a step that returned r: it newly holds only members of ps, and all numbers keep
  -- their commits.
  pub record Meets (ps : List ObjectId) (g g' : Graphed S T) (r : R) : Type 0 where
    pub more : HoldsMore (history g.source) ps g g'
    pub numbers : KeepsNumbers g g'
    pub graph : GraphAfter history faults is_fault g g' r
