-- Loose objects and the ids of objects: gitformat-loose; git-hash-object; gitglossary, "object
-- name".
use Rattle.std.specs.Prelude.{◌≡◌, ℕ, ◌+◌, ◌<◌, ◌^◌, List, ◌∷◌, ◌++◌, length, codes}
use Rattle.std.specs.Fmt.{decimal}
use Rattle.sha1.specs.Sha1.{sha1}
use Rattle.gix_base.specs.declared.hash.ObjectId.{ObjectId}
use Rattle.gix_base.specs.declared.object.Kind.{Kind}
use Rattle.gix_base.specs.declared.object.Kind.TheVariants.{Tree, Blob, Commit, Tag}

-- The name of a kind of objects: `tree`, `blob`, `commit` or `tag` (gitglossary, "object type").
unfoldable pub kind_name : Kind → List ℕ
kind_name Tree = codes "tree"
kind_name Blob = codes "blob"
kind_name Commit = codes "commit"
kind_name Tag = codes "tag"

-- The name of the kind, a space, and the size in decimal digits.
abbrev pub kind_and_size : Kind → ℕ → List ℕ
kind_and_size kind size = kind_name kind ++ (32 ∷ decimal size)

-- The bytes are a header of this kind and size, and then rest. A header ends with a byte 0
-- (gitformat-loose).
abbrev pub HasHeader : List ℕ → Kind → ℕ → List ℕ → Type 0
HasHeader bytes kind size rest = bytes ≡ kind_and_size kind size ++ (0 ∷ rest)

-- The first len of the bytes are a header of this kind and size, and the size is less than 2^64.
pub record IsHeader (bytes : List ℕ) (kind : Kind) (size len : ℕ) : Type 0 where
  pub small : size < 2 ^ 64
  pub rest : List ℕ
  pub begins : HasHeader bytes kind size rest
  pub ends : len ≡ length (kind_and_size kind size) + 1

-- An object as it is stored: a header of its kind and size, and its content (gitformat-loose).
abbrev pub stored : Kind → List ℕ → List ℕ
stored kind content = kind_and_size kind (length content) ++ (0 ∷ content)

-- The id of an object is the SHA-1 of the object as it is stored (gitglossary, "object name"). The
-- function sha1 is that of FIPS 180-4, as the toolchain defines it.
unfoldable pub id_of_object : Kind → List ℕ → ObjectId
id_of_object kind content = record { 0 = sha1 (stored kind content) }

-- The inflated bytes of a loose object are the object of this kind and content, as it is stored.
abbrev pub IsLoose : List ℕ → Kind → List ℕ → Type 0
IsLoose bytes kind content = bytes ≡ stored kind content
