-- Why a content is not read as the commit of an id.
use Rattle.std.specs.Prelude.{◌≡◌, ◌≢◌, ℕ, List}
use Rattle.gix_base.specs.declared.hash.ObjectId.{ObjectId}
use Rattle.gix_base.specs.declared.object.Kind.TheVariants.{Commit}
use Rattle.gix_object.specs.ObjectForm.{id_of_object}
use Rattle.gix_object.specs.CommitForm as commit
use Rattle.gix_object.specs.declared.authentic.ReadError.{ReadError}
use Rattle.gix_object.specs.declared.authentic.ReadError.TheVariants.{WrongId, Parse}

-- The content has another id, or it has this id and is not read as a commit.
abbrev pub IsRefused : List ℕ → ObjectId → ReadError → Type 0
IsRefused content id WrongId = id_of_object Commit content ≢ id
IsRefused content id (Parse error) = (id_of_object Commit content ≡ id) × commit.IsRefused content error
