-- What is known of references after files were read: gitrepository-layout, "refs", "packed-refs".
use Rattle.std.specs.Prelude.{◌≡◌, ℕ, List, [], ◌∷◌, ◌++◌, ◌⊎◌, cond, Option, None, Some, nat_eq}
use Rattle.std.specs.Option.{unwrap_or}
use Rattle.std.specs.Cmp.Lexicographic.{pointwise}
use Rattle.gix_ref_text.specs.Loose.{Says, loose_says}
use Rattle.gix_ref_text.specs.Packed.{packed_says}

-- What was read of a loose reference: its name, and the bytes of its file if there is one. It does
-- not speak of symbolic links: the program reads most of those to a name below `refs/` as `ref:
-- NAME`.
pub record Read : Type 0 where
  pub name : List ℕ
  pub content : Option (List ℕ)

-- What an answer has read: loose references, the last one at the end, and the bytes of
-- `packed-refs` if they were read.
pub record Known : Type 0 where
  pub loose : List Read
  pub packed : Option (List ℕ)

-- The first reading of this name.
abbrev pub first_read : List Read → List ℕ → Option Read
first_read [] name = None
first_read (r ∷ rs) name = cond (pointwise nat_eq r.name name) (Some r) (first_read rs name)

-- The bytes of a file that was read.
abbrev pub content_of : Option Read → Option (List ℕ)
content_of None = None
content_of (Some r) = r.content

-- What a reference says: what its file says, or else what `packed-refs` says of it.
abbrev pub reference_says : Option (List ℕ) → Option (List ℕ) → List ℕ → Option Says
reference_says (Some content) packed name = Some (loose_says name content)
reference_says None packed name = packed_says (unwrap_or packed []) name

-- What the reference of this name says, as far as files were read.
abbrev pub says : Known → List ℕ → Option Says
says known name = reference_says (content_of (first_read known.loose name)) known.packed name

-- What is known later has all that was known, at the same places.
pub record Grows (known later : Known) : Type 0 where
  pub loose : (more : List Read) × (later.loose ≡ known.loose ++ more)
  pub packed : (known.packed ≡ None) ⊎ (later.packed ≡ known.packed)
