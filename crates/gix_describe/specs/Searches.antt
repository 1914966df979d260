-- The states of a walk by its search: as in WalkState.antt, in the part of the history that the
-- search follows.
use Rattle.std.specs.Prelude.{ℕ, Option, get_or}
use Rattle.gix_base.specs.declared.hash.ObjectId.{ObjectId}
use Rattle.gix_base.specs.declared.error.message.Message.{Message}
use Rattle.gix_revwalk.specs.Followed.{followed}
use Rattle.gix_revwalk.specs.Graph.{Graphed}
use Rattle.gix_revwalk.specs.History.{History}
use Rattle.gix_describe.specs.Asks.{Asks, IsWalkRefused}
use Rattle.gix_describe.specs.Described.{Names}
use Rattle.gix_describe.specs.Order.{PutBack}
use Rattle.gix_describe.specs.Ties.{IsHeldAtFault}
use Rattle.gix_describe.specs.WalkState.{Rests, Takes, Admits, IsEnded, IsFull, Completes, CompletesTaken, IsComplete}
use Rattle.gix_describe.specs.declared.describe.key.Key.{Key}
use Rattle.gix_describe.specs.declared.describe.met.Met.{Met}
use Rattle.gix_describe.specs.declared.describe.walk.Search.{Search}
use Rattle.gix_describe.specs.declared.describe.walk.Walk.{Walk}

-- The part of the history h that the search follows.
abbrev pub along : Search → History → History
along search h = followed search.first_parent h

-- The search is between two turns.
abbrev pub RestsBy : {S A : Type 0} → History → Search → Names → Walk A → Graphed S ℕ → Type 0
RestsBy h search names w g = Rests search.tie (along search h) search.start names search.cap w g

-- A commit has left the queue, with its key.
abbrev pub TakesBy : {S A : Type 0} → History → Search → Names → Key × Met → Walk A → Graphed S ℕ → Type 0
TakesBy h search names p w g = Takes search.tie (along search h) search.start names search.cap p w g

-- A commit has left the queue, and is a candidate if it is named.
abbrev pub AdmitsBy : {S A : Type 0} → History → Search → Names → Met → Walk A → Graphed S ℕ → Type 0
AdmitsBy h search names met w g = Admits search.tie (along search h) search.start names search.cap met w g

-- Everything that is left lies below each candidate with the least count.
abbrev pub IsEndedBy : {S A : Type 0} → History → Search → Names → Walk A → Graphed S ℕ → Type 0
IsEndedBy h search names w g = IsEnded search.tie (along search h) search.start names search.cap w g

-- There is no room for the next candidate.
abbrev pub IsFullBy : {S A : Type 0} → History → Search → Names → Walk A → Graphed S ℕ → Type 0
IsFullBy h search names w g = IsFull search.tie (along search h) search.start names search.cap w g

-- Since the cut, only the count of the candidate at the place is continued.
abbrev pub CompletesBy : {S A : Type 0} → History → Search → ℕ → ℕ → PutBack → Walk A → Graphed S ℕ → Type 0
CompletesBy h search place count cut w g = Completes search.tie (along search h) search.start place count cut w g

-- Since the cut, only the count of the candidate at the place is continued, and a commit has left
-- the queue.
abbrev pub CompletesTakenBy : {S A : Type 0} → History → Search → ℕ → ℕ → Met → PutBack → Walk A → Graphed S ℕ → Type 0
CompletesTakenBy h search place count met cut w g =
    CompletesTaken search.tie (along search h) search.start place count met cut w g

-- The count of the candidate at the place in the walk w is complete.
abbrev pub IsCompleteBy : {A : Type 0} → History → Search → ℕ → Walk A → ℕ → ℕ → PutBack → (ObjectId → Option ℕ) → Type 0
IsCompleteBy h search place w count seen cut held =
    IsComplete search.tie (along search h) search.start (get_or w.candidates.items place search.start) count seen cut held

-- What the graph holds after an error.
abbrev pub IsHeldAtFaultBy : History → Search → (ObjectId → Option ℕ) → Message → Type 0
IsHeldAtFaultBy h search held e = IsHeldAtFault search.tie (along search h) search.start e held

-- What the walk does to its source, and why it fails.
abbrev pub AsksBy : {S : Type 0} → (S → History) → (S → ℕ) → Search → S → S → Option Message → Type 0
AsksBy history faults search before after refused =
    Asks history faults (IsWalkRefused (along search (history before)) search.start) before after refused
