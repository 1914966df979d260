-- What follows from the forms of objects: each content has one meaning, or one error.
use Rattle.std.specs.Prelude.{◌≡◌, ◌≢◌, ℕ, ◌<◌, ◌^◌, ℤ, List, length}
use Rattle.gix_base.specs.declared.hash.ObjectId.{ObjectId}
use Rattle.gix_base.specs.declared.object.Kind.{Kind}
use Rattle.gix_object.specs.ObjectForm.{HasHeader, IsLoose}
use Rattle.gix_object.specs.CommitForm as commit
use Rattle.gix_object.specs.TagForm as tag
use Rattle.gix_object.specs.declared.commit.ParseError.{ParseError}
use Rattle.gix_object.specs.declared.commit.ParseError.TheVariants.{OutOfMemory}
use Rattle.gix_object.specs.declared.tag.ParseError.{ParseError as TagError}

-- A content is the one of at most one commit, by parents and time.
abbrev pub OneCommit : Type 0
OneCommit =
    (text : List ℕ) (parents others : List ObjectId) (time moment : ℤ)
    → commit.IsCommit text parents time → commit.IsCommit text others moment → (parents ≡ others) × (time ≡ moment)

-- A content with an error other than `OutOfMemory` is not the one of a commit.
abbrev pub RefusedIsNoCommit : Type 0
RefusedIsNoCommit =
    (text : List ℕ) (error : ParseError) (parents : List ObjectId) (time : ℤ)
    → error ≢ OutOfMemory → commit.IsRefused text error → ¬ commit.IsCommit text parents time

-- A content has at most one error other than `OutOfMemory`.
abbrev pub OneCommitError : Type 0
OneCommitError =
    (text : List ℕ) (error other : ParseError) → error ≢ OutOfMemory → other ≢ OutOfMemory
    → commit.IsRefused text error → commit.IsRefused text other → error ≡ other

-- A content is the one of at most one tag, by target, kind, name and date.
abbrev pub OneTag : Type 0
OneTag =
    (text : List ℕ) (target other : ObjectId) (kind more : Kind) (name word : List ℕ) (date moment : ℕ)
    → tag.IsTag text target kind name date → tag.IsTag text other more word moment
    → (target ≡ other) × (kind ≡ more) × (name ≡ word) × (date ≡ moment)

-- A content with an error is not the one of a tag.
abbrev pub RefusedIsNoTag : Type 0
RefusedIsNoTag =
    (text : List ℕ) (error : TagError) (target : ObjectId) (kind : Kind) (name : List ℕ) (date : ℕ)
    → tag.IsRefused text error → ¬ tag.IsTag text target kind name date

-- A content has at most one error as the content of a tag.
abbrev pub OneTagError : Type 0
OneTagError = (text : List ℕ) (error other : TagError) → tag.IsRefused text error → tag.IsRefused text other → error ≡ other

-- Bytes begin with at most one header, if its size is less than 2^64.
abbrev pub OneHeader : Type 0
OneHeader =
    (bytes rest end : List ℕ) (kind other : Kind) (size number : ℕ) → size < 2 ^ 64 → number < 2 ^ 64
    → HasHeader bytes kind size rest → HasHeader bytes other number end → (kind ≡ other) × (size ≡ number) × (rest ≡ end)

-- Bytes are at most one loose object, if there are fewer than 2^63 of them.
abbrev pub OneLoose : Type 0
OneLoose =
    (bytes : List ℕ) (kind other : Kind) (content more : List ℕ) → length bytes < 2 ^ 63
    → IsLoose bytes kind content → IsLoose bytes other more → (kind ≡ other) × (content ≡ more)
