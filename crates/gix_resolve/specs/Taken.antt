-- What calls load into a graph, and what they ask its source for.
use Rattle.std.specs.Prelude.{◌≡◌, ◌⊎◌, ◌<◌, ◌≤◌, ◌-◌, ℕ, [], ◌∷◌, Bool, true, false, IsTrue, Option, Some, None, is_some}
use Rattle.std.specs.List.{slice_get}
use Rattle.gix_revision.specs.Call.{Call, traverse, peel, object}
use Rattle.gix_revision.specs.Graph.{Graphed, held_at}
use Rattle.gix_revision.specs.History.{History, Has, IsAncestor, IsAncestorOfOne, entry_at, parents_in}
use Rattle.gix_revision.specs.Types.ObjectId.{ObjectId}
use Rattle.gix_revision.specs.Types.ObjectKind.TheVariants.{Commit}
use Rattle.gix_revision.specs.Types.Spec.{Spec}
use Rattle.gix_revision.specs.Types.Spec.TheVariants.{Include, Exclude, Range, Merge, IncludeOnlyParents, ExcludeParents}
use Rattle.gix_revision.specs.Types.Traversal.{Traversal}
use Rattle.gix_revision.specs.Types.Traversal.TheVariants.{NthParent, NthAncestor}
use Rattle.gix_resolve.specs.Steps.{parent_at, ancestor_at, step_from}

-- Every commit that graph n holds is held by graph m or is wanted.
abbrev pub TakesOnly : {S T : Type 0} → (ObjectId → Type 0) → Graphed S T → Graphed S T → Type 0
TakesOnly wanted m n = (q : ObjectId) → IsTrue (is_some (held_at n q)) → IsTrue (is_some (held_at m q)) ⊎ wanted q

-- Commit q may be loaded to list what a spec means. It is reachable from an id of the spec. For
-- `a^!` it is a, and history h has it. For `^a`, which means no commit, there is none.
abbrev pub IsLookedAt : History → Spec → ObjectId → Type 0
IsLookedAt h (Include a) q = IsAncestor h a q
IsLookedAt h (Exclude a) q = ⊥
IsLookedAt h (Range a b) q = IsAncestorOfOne h (a ∷ b ∷ []) q
IsLookedAt h (Merge a b) q = IsAncestorOfOne h (a ∷ b ∷ []) q
IsLookedAt h (IncludeOnlyParents a) q = IsAncestor h a q
IsLookedAt h (ExcludeParents a) q = Has h a × (q ≡ a)

-- Whether the spec is `^a`.
abbrev pub is_exclude : Spec → Bool
is_exclude (Exclude a) = true
is_exclude _ = false

-- Commit q is id, or the parent of id at the place, if history h has that parent.
abbrev pub IsNear : History → (place : ℕ) → (id q : ObjectId) → Type 0
IsNear h place id q = (q ≡ id) ⊎ (parent_at h place id ≡ Some q)

-- Commit q is on a step from id. For `~n` it is on the way from id to where the step leads, for
-- `^n` it is id or where the step leads.
abbrev pub IsOnStep : History → Traversal → (id q : ObjectId) → Type 0
IsOnStep h (NthAncestor n) id q = (k : ℕ) × (k ≤ n) × (ancestor_at h k id ≡ Some q)
IsOnStep h (NthParent n) id q = (q ≡ id) ⊎ (step_from h (NthParent n) id ≡ Some q)

-- Commit q is on a call at the revision that was read: it is on a step, or it is the commit that
-- `^{commit}` asks for. No commit is on any other call.
abbrev pub IsOnCall : History → Option ObjectId → Call → ObjectId → Type 0
IsOnCall h (Some id) (traverse step) q = IsOnStep h step id q
IsOnCall h (Some id) (peel (object Commit)) q = q ≡ id
IsOnCall h _ _ q = ⊥

-- Some wanted commit is not held by graph n.
abbrev pub LacksOne : {S T : Type 0} → (ObjectId → Type 0) → Graphed S T → Type 0
LacksOne wanted n = (q : ObjectId) × wanted q × (held_at n q ≡ None)

-- Graph n holds the revision that was read before a call, and the one that was read after it.
abbrev pub HoldsBoth : {S T : Type 0} → (before after : Option ObjectId) → Graphed S T → Type 0
HoldsBoth before after n = (q : ObjectId) → (before ≡ Some q) ⊎ (after ≡ Some q) → IsTrue (is_some (held_at n q))

-- Commit q is id or the parent of id at the place, also if history h does not have that parent.
abbrev pub IsAskedNear : History → (place : ℕ) → (id q : ObjectId) → Type 0
IsAskedNear h place id q = (q ≡ id) ⊎ (slice_get (parents_in (entry_at h id)) place ≡ Some q)

-- Commit q may be asked for on a step from id. It is id; or for `~n` a commit on the way before the
-- last one, or the first parent of such a commit; or for `^n` the parent of that number. The
-- history need not have the parent.
abbrev pub IsAskedOnStep : History → Traversal → (id q : ObjectId) → Type 0
IsAskedOnStep h (NthAncestor n) id q =
    (q ≡ id) ⊎ ((k : ℕ) × (p : ObjectId) × (k < n) × (ancestor_at h k id ≡ Some p) × IsAskedNear h 0 p q)
IsAskedOnStep h (NthParent n) id q = (q ≡ id) ⊎ ((0 < n) × IsAskedNear h (n - 1) id q)

-- Commit q may be asked for at a call at the revision that was read: it may be asked for on a step,
-- or it is the commit that `^{commit}` asks for.
abbrev pub IsAskedAt : History → Option ObjectId → Call → ObjectId → Type 0
IsAskedAt h (Some id) (traverse step) q = IsAskedOnStep h step id q
IsAskedAt h (Some id) (peel (object Commit)) q = q ≡ id
IsAskedAt h _ _ q = ⊥
