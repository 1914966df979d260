-- What a call that looks commits up does to its source, and why it fails.
use Rattle.std.specs.Prelude.{◌≡◌, ℕ, ◌^◌, ◌⊎◌, Option, IfSome}
use Rattle.gix_base.specs.declared.hash.ObjectId.{ObjectId}
use Rattle.gix_base.specs.declared.error.message.Message.{Message}
use Rattle.gix_base.specs.declared.error.message.Message.TheVariants.{ParentsOf, MissingStart, CounterFull, OutOfMemory}
use Rattle.gix_revwalk.specs.Faults.{count_after}
use Rattle.gix_revwalk.specs.History.{History, Has, IsAncestor}
use Rattle.gix_revwalk.specs.Sizes.{AtLeast}
use Rattle.gix_describe.specs.DescribeRefusals.{is_for_source}

-- The call keeps the history of the source. The count of faults grows by one if the source failed,
-- and is unchanged otherwise. An error has its cause.
pub record Asks {S : Type 0} (history : S → History) (faults : S → ℕ) (Cause : Message → Type 0) (before after : S) (refused : Option Message) : Type 0 where
  pub same_history : history after ≡ history before
  pub count : faults after ≡ count_after (is_for_source refused) (faults before)
  pub cause : IfSome refused Cause

-- The reason why the parents of x could not be loaded.
abbrev pub IsHandRefused : History → ObjectId → Message → Type 0
IsHandRefused h x (ParentsOf id) = id ≡ x
IsHandRefused h x (MissingStart id) = (id ≡ x) × (¬ Has h x)
IsHandRefused h x CounterFull = ⊥
IsHandRefused h x OutOfMemory = Unit {0}

-- The reason why a walk from s fails.
abbrev pub IsWalkRefused : History → ObjectId → Message → Type 0
IsWalkRefused h s (ParentsOf id) = (id ≡ s) ⊎ IsAncestor h s id
IsWalkRefused h s (MissingStart id) = (id ≡ s) × (¬ Has h s)
IsWalkRefused h s CounterFull = AtLeast (2 ^ 32) (IsAncestor h s)
IsWalkRefused h s OutOfMemory = Unit {0}
