-- A step loads only commits on it.
use Rattle.std.proofs.Common.{◌≡◌, ℕ, sym, ap, ◌∙◌, inl, inr, ◌<◌, ◌≤◌, ◌+◌, Option, Some, None, if◌then◌else◌, arith}
use Rattle.std.specs.List.{slice_get}
use Rattle.gix_revision.specs.Call.{Target, traverse, peel, object}
use Rattle.gix_revision.specs.Graph.{Graphed}
use Rattle.gix_revision.specs.History.{History, Has, entry_at, parents_in}
use Rattle.gix_revision.specs.Types.ObjectId.{ObjectId}
use Rattle.gix_revision.specs.Types.ObjectKind.TheVariants.{Commit}
use Rattle.gix_revision.specs.Types.Traversal.{Traversal}
use Rattle.gix_revision.specs.Types.Traversal.TheVariants.{NthParent, NthAncestor}
use Rattle.gix_resolve.specs.Steps.{where_known, parent_at, onward, ancestor_at}
use Rattle.gix_resolve.specs.Taken.{TakesOnly, IsNear, IsOnStep, IsOnCall}
use Rattle.gix_resolve.specs.Walk.{GoesOn}
use Rattle.gix_resolve.specs.declared.walk.Walk.{Walk}
use Rattle.gix_resolve.proofs.ListTaken.{only_then, only_wider}
use Rattle.gix_resolve.proofs.Rounds.{steps_add, less_left}

-- a number of steps leads to where the walk is; with the remaining steps it is no more than the
-- steps asked for
abbrev pub IsReached : History → (start : ObjectId) → (steps : ℕ) → (at : ObjectId) → (left : ℕ) → Type 0
IsReached h start steps at left = (k : ℕ) × (k + left ≤ steps) × (ancestor_at h k start ≡ Some at)

known : (h : History) (q : ObjectId) → Has h q → where_known h (Some q) ≡ Some q
known h q has = ap (λ b. if b then Some q else None) has

-- a step more
further : (h : History) (k : ℕ) (start at q : ObjectId) → ancestor_at h k start ≡ Some at → parent_at h 0 at ≡ Some q → ancestor_at h (k + 1) start ≡ Some q
further h k start at q way next = steps_add h k 1 start ∙ ap (onward (ancestor_at h 1)) way ∙ ap (onward (ancestor_at h 0)) next

module _ (h : History) where
  -- the commit from which a step goes is on it
  at_start : (id : ObjectId) (step : Traversal) (q : ObjectId) → q ≡ id → IsOnStep h step id q
  at_start id (NthAncestor n) q same = (0, omega arith, ap Some (sym same))
  at_start id (NthParent n) q same = inl same

  -- the commit to which a round of `~n` leads
  on_way : (start : ObjectId) (steps : ℕ) (at : ObjectId) (left : ℕ) (q : ObjectId) → IsReached h start steps at left → 0 < left → IsNear h 0 at q → IsOnStep h (NthAncestor steps) start q
  on_way start steps at left q way some (inl is) = (way.0, (let few = way.1 in omega arith), way.2 ∙ ap Some (sym is))
  on_way start steps at left q way some (inr next) = (way.0 + 1, (let few = way.1 in omega arith), further h way.0 start at q way.2 next)

module _ {S T : Type 0} (h : History) where
  -- what was asked for: the commit, and then its parent
  pub near_start : (place : ℕ) (id : ObjectId) (m n : Graphed S T) → TakesOnly (λ q. Has h id × (q ≡ id)) m n → TakesOnly (IsNear h place id) m n
  near_start place id m n taken = only_wider (λ q. Has h id × (q ≡ id)) (IsNear h place id) m n (λ q k. inl k.1) taken

  pub near_found : (place : ℕ) (id found : ObjectId) (m n o : Graphed S T) → TakesOnly (λ q. Has h id × (q ≡ id)) m n → Some found ≡ slice_get (parents_in (entry_at h id)) place
      → TakesOnly (λ q. Has h found × (q ≡ found)) n o → TakesOnly (IsNear h place id) m o
  near_found place id found m n o first is second =
      only_then (IsNear h place id) m n o (near_start place id m n first)
      (only_wider (λ q. Has h found × (q ≡ found)) (IsNear h place id) n o (λ q k. inr (ap (where_known h) (sym is) ∙ known h found k.0 ∙ ap Some (sym k.1))) second)

  -- a round of `~n`
  pub on_round : (start : ObjectId) (steps : ℕ) (at : ObjectId) (left : ℕ) (m n o : Graphed S T) → IsReached h start steps at left → 0 < left → TakesOnly (IsOnStep h (NthAncestor steps) start) m n
      → TakesOnly (IsNear h 0 at) n o → TakesOnly (IsOnStep h (NthAncestor steps) start) m o
  on_round start steps at left m n o way some taken more =
      only_then (IsOnStep h (NthAncestor steps) start) m n o taken
      (only_wider (IsNear h 0 at) (IsOnStep h (NthAncestor steps) start) n o (λ q k. on_way h start steps at left q way some k) more)

module _ {S T : Type 0} (h : History) (current : Option ObjectId) (id : ObjectId) (is : current ≡ Some id) where
  pub on_start : (step : Traversal) (m n : Graphed S T) → TakesOnly (λ q. Has h id × (q ≡ id)) m n → TakesOnly (IsOnCall h current (traverse step)) m n
  on_start step m n taken = rw is (only_wider (λ q. Has h id × (q ≡ id)) (IsOnStep h step id) m n (λ q k. at_start h id step q k.1) taken)

  pub on_step : (step : Traversal) (m n o : Graphed S T) → TakesOnly (λ q. Has h id × (q ≡ id)) m n → TakesOnly (IsOnStep h step id) n o → TakesOnly (IsOnCall h current (traverse step)) m o
  on_step step m n o taken more = only_then (IsOnCall h current (traverse step)) m n o (on_start step m n taken) (rw is more)

  pub on_demand : (target : Target) (m n : Graphed S T) → target ≡ object Commit → TakesOnly (λ q. Has h id × (q ≡ id)) m n → TakesOnly (IsOnCall h current (peel target)) m n
  on_demand target m n commit taken = rw (is, commit) (only_wider (λ q. Has h id × (q ≡ id)) (λ q. q ≡ id) m n (λ q k. k.1) taken)

pub reached_next : (h : History) (start : ObjectId) (steps : ℕ) (w v : Walk) (next : ObjectId) → IsReached h start steps w.at w.left → Some next ≡ parent_at h 0 w.at → GoesOn w next v → IsReached h start steps v.at v.left
reached_next h start steps w v next way found go = (
  way.0 + 1,
  (let few = way.1 in let less = less_left w v next go in omega arith),
  further h way.0 start w.at next way.2 (sym found) ∙ ap Some (sym go.at),
)
