-- Insertion of a commit: why it fails, and which abbreviated object names it adds.
use Rattle.std.specs.Prelude.{◌≡◌, ◌⊎◌, ℕ, List, Some, true, if◌then◌else◌}
use Rattle.gix_base.specs.declared.hash.ObjectId.{ObjectId}
use Rattle.gix_object.specs.Authentic.{IsAuthentic}
use Rattle.gix_object.specs.CommitForm.{IsRefused}
use Rattle.gix_object.specs.declared.commit.ParseError.TheVariants.{BadTree, BadParent, TimeOutOfRange}
use Rattle.gix_revwalk.specs.History.{History, Entry, Has, entry_at, is_one_of, same_id}
use Rattle.gix_revwalk.specs.declared.graph.find.SourceCommit.{SourceCommit}
use Rattle.gix_revwalk.specs.declared.graph.insert.InsertError.{InsertError}
use Rattle.gix_revwalk.specs.declared.graph.insert.InsertError.TheVariants.{AlreadyThere, OutOfMemory}

-- The commit comes back. The error is AlreadyThere only if the history has a commit with its id.
abbrev pub TellsWhy : {A : Type 0} → History → ObjectId → SourceCommit A → InsertError A → Type 0
TellsWhy h id commit (AlreadyThere back) = (back ≡ commit) × Has h id
TellsWhy h id commit (OutOfMemory back) = back ≡ commit

-- The members of new are those of old, and id.
abbrev pub HasOneMore : ObjectId → (old new : List ObjectId) → Type 0
HasOneMore id old new = (q : ObjectId) → is_one_of new q ≡ (if same_id id q then true else is_one_of old q)

-- The history new has under id the commit that the content is, whose hash is id, and otherwise the
-- commits of old (git-hash-object; gitglossary, "commit object").
pub record HasContent (content : List ℕ) (id : ObjectId) (old new : History) : Type 0 where
  pub commit : Entry
  pub authentic : IsAuthentic content id commit
  pub put : (q : ObjectId) → entry_at new q ≡ (if same_id id q then Some commit else entry_at old q)

-- The content is not read as a commit: it does not begin with the line of a tree, a line of a
-- parent is malformed, or the committer's time is 2^63 seconds or more (git-commit-tree,
-- "Description").
abbrev pub IsMisshapen : List ℕ → Type 0
IsMisshapen content = IsRefused content BadTree ⊎ (IsRefused content BadParent ⊎ IsRefused content TimeOutOfRange)
