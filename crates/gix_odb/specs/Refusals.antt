-- What the errors of a store say of the id that was asked for.
use Rattle.std.specs.Prelude.{◌≡◌, ◌≢◌, ℕ, List}
use Rattle.gix_base.specs.declared.hash.ObjectId.{ObjectId}
use Rattle.gix_base.specs.declared.object.Kind.{Kind}
use Rattle.gix_base.specs.declared.object.Kind.TheVariants.{Commit, Tag}
use Rattle.gix_object.specs.CommitForm as commit
use Rattle.gix_object.specs.TagForm as tag
use Rattle.gix_odb.specs.Stores.{IsObject}
use Rattle.gix_odb.specs.declared.failure.Failure.{Failure}
use Rattle.gix_odb.specs.declared.failure.Failure.TheVariants.{Missing as NoCopy, Altered as OtherObject, InFile}
use Rattle.gix_odb.specs.declared.error.Error.{Error}
use Rattle.gix_odb.specs.declared.error.Error.TheVariants.{Missing, Altered, NotACommit, Malformed, NotATag, MalformedTag, Damaged, Unsupported, Failed, OutOfMemory}

-- The other id is not id, and it is the id of an object.
abbrev pub IsOther : ObjectId → ObjectId → Type 0
IsOther id other = (other ≢ id) × ((kind : Kind) × (content : List ℕ) × IsObject other kind content)

-- Why a copy of the object with this id is not taken. If the bytes of a copy have another id, that
-- is the id of an object.
abbrev pub IsFailure : ObjectId → Failure → Type 0
IsFailure id NoCopy = Unit {0}
IsFailure id (OtherObject other) = IsOther id other
IsFailure id (InFile fault) = Unit {0}

-- An error of the read of id. `Missing` and `Altered` name this id, and `Altered` also names another
-- id, which an object has. None is about what the object says.
abbrev pub IsRefused : ObjectId → Error → Type 0
IsRefused id (Missing other) = other ≡ id
IsRefused id (Altered wanted other) = (wanted ≡ id) × IsOther id other
IsRefused id (NotACommit other kind) = ⊥
IsRefused id (Malformed other error) = ⊥
IsRefused id (NotATag other kind) = ⊥
IsRefused id (MalformedTag other error) = ⊥
IsRefused id (Damaged file at damage) = Unit {0}
IsRefused id (Unsupported file feature) = Unit {0}
IsRefused id (Failed file kind) = Unit {0}
IsRefused id OutOfMemory = Unit {0}

-- An error of the read of id as a commit. The object with this id is of another kind, or its
-- content is refused as that of a commit, or no copy of the object is taken.
abbrev pub IsNoCommit : ObjectId → Error → Type 0
IsNoCommit id (Missing other) = other ≡ id
IsNoCommit id (Altered wanted other) = (wanted ≡ id) × IsOther id other
IsNoCommit id (NotACommit other kind) = (other ≡ id) × (kind ≢ Commit) × ((content : List ℕ) × IsObject id kind content)
IsNoCommit id (Malformed other error) = (other ≡ id) × ((content : List ℕ) × IsObject id Commit content × commit.IsRefused content error)
IsNoCommit id (NotATag other kind) = ⊥
IsNoCommit id (MalformedTag other error) = ⊥
IsNoCommit id (Damaged file at damage) = Unit {0}
IsNoCommit id (Unsupported file feature) = Unit {0}
IsNoCommit id (Failed file kind) = Unit {0}
IsNoCommit id OutOfMemory = Unit {0}

-- An error of the read of id as a tag. The object with this id is of another kind, or its content
-- is refused as that of a tag, or no copy of the object is taken.
abbrev pub IsNoTag : ObjectId → Error → Type 0
IsNoTag id (Missing other) = other ≡ id
IsNoTag id (Altered wanted other) = (wanted ≡ id) × IsOther id other
IsNoTag id (NotACommit other kind) = ⊥
IsNoTag id (Malformed other error) = ⊥
IsNoTag id (NotATag other kind) = (other ≡ id) × (kind ≢ Tag) × ((content : List ℕ) × IsObject id kind content)
IsNoTag id (MalformedTag other error) = (other ≡ id) × ((content : List ℕ) × IsObject id Tag content × tag.IsRefused content error)
IsNoTag id (Damaged file at damage) = Unit {0}
IsNoTag id (Unsupported file feature) = Unit {0}
IsNoTag id (Failed file kind) = Unit {0}
IsNoTag id OutOfMemory = Unit {0}
