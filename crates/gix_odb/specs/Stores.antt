-- What the answers of a store say of an id.
use Rattle.std.specs.Prelude.{◌≡◌, ℕ, List}
use Rattle.gix_base.specs.declared.hash.ObjectId.{ObjectId}
use Rattle.gix_base.specs.declared.object.Kind.{Kind}
use Rattle.gix_base.specs.declared.object.Kind.TheVariants.{Tag}
use Rattle.gix_revwalk.specs.History.{Entry}
use Rattle.gix_object.specs.ObjectForm.{id_of_object}
use Rattle.gix_object.specs.TagForm.{IsTag}
use Rattle.gix_object.specs.Authentic.{IsAuthentic}

-- The object of this kind with this content has this id (git-hash-object).
abbrev pub IsObject : ObjectId → Kind → List ℕ → Type 0
IsObject id kind content = id_of_object kind content ≡ id

-- A content with this id, as a commit, says the parents and the commit date of an entry.
abbrev pub IsCommitOf : ObjectId → Entry → Type 0
IsCommitOf id entry = (content : List ℕ) × IsAuthentic content id entry

-- A content with this id, as a tag, says this target and its kind, the tag's name and its date.
abbrev pub IsTagOf : ObjectId → ObjectId → Kind → List ℕ → ℕ → Type 0
IsTagOf id target kind name date = (content : List ℕ) × IsObject id Tag content × IsTag content target kind name date
