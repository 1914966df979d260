-- What a step asked for that was not answered.
use Rattle.std.proofs.Common.{◌≡◌, ℕ, inl, inr, ◌<◌, Option, Some, None, OnErr, Result, Ok, Err, refl, arith}
use Rattle.gix_revision.specs.Call.{Target, traverse, peel, object}
use Rattle.gix_revision.specs.Graph.{Graphed, held_at}
use Rattle.gix_revision.specs.History.{History}
use Rattle.gix_revision.specs.Types.ObjectId.{ObjectId}
use Rattle.gix_revision.specs.Types.ObjectKind.TheVariants.{Commit}
use Rattle.gix_revision.specs.Types.Traversal.{Traversal}
use Rattle.gix_revision.specs.Types.Traversal.TheVariants.{NthParent, NthAncestor}
use Rattle.gix_resolve.specs.Taken.{LacksOne, IsAskedNear, IsAskedOnStep, IsAskedAt}
use Rattle.gix_resolve.proofs.StepTaken.{IsReached}

pub where_refused : {X E P : Type 0} (r : Result X E) → P → OnErr r P
where_refused (Ok x) p = tt
where_refused (Err e) p = p

-- the commit that a step goes from is asked for
start_asked : (h : History) (id : ObjectId) (step : Traversal) → IsAskedOnStep h step id id
start_asked h id (NthAncestor n) = inl refl
start_asked h id (NthParent n) = inl refl

module _ {S T : Type 0} (h : History) where
  -- a round of `~n`
  pub asked_round : (start : ObjectId) (steps : ℕ) (at : ObjectId) (left : ℕ) (n : Graphed S T) → IsReached h start steps at left → 0 < left → LacksOne (IsAskedNear h 0 at) n
      → LacksOne (IsAskedOnStep h (NthAncestor steps) start) n
  asked_round start steps at left n way some lacks = (lacks.0, inr (way.0, at, (let few = way.1 in omega arith), way.2, lacks.1), lacks.2)

module _ {S T : Type 0} (h : History) (current : Option ObjectId) (id : ObjectId) (is : current ≡ Some id) where
  pub asked_start : (step : Traversal) (n : Graphed S T) → held_at n id ≡ None → LacksOne (IsAskedAt h current (traverse step)) n
  asked_start step n none = rw is (id, start_asked h id step, none)

  pub asked_demand : (target : Target) (n : Graphed S T) → target ≡ object Commit → held_at n id ≡ None → LacksOne (IsAskedAt h current (peel target)) n
  asked_demand target n commit none = rw (is, commit) (id, refl, none)
