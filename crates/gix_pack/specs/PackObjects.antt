-- The object at an offset of a pack (gitformat-pack, "Deltified representation"). What a zlib stream
-- inflates to, and the offset of the object with an id, are parameters.
use Rattle.std.specs.Prelude.{◌≡◌, ℕ, ◌+◌, ◌-◌, ◌<◌, List, length, drop, Option, Some}
use Rattle.gix_base.specs.declared.hash.ObjectId.{ObjectId}
use Rattle.gix_base.specs.declared.object.Kind.{Kind}
use Rattle.gix_pack.specs.EntryForm.{IsHeader}
use Rattle.gix_pack.specs.DeltaForm.{IsDelta}
use Rattle.gix_pack.specs.declared.entry.Body.{Body}
use Rattle.gix_pack.specs.declared.entry.Body.TheVariants.{Whole, OffsetDelta, IdDelta}

-- At an offset of the pack is the header of an entry with a body. A zlib stream follows it, which
-- has the content, of the size that the header says.
pub record HasStream (inflated : List ℕ → Option (List ℕ)) (pack : List ℕ) (offset : ℕ) (body : Body) (content : List ℕ) : Type 0 where
  pub len : ℕ
  pub header : IsHeader (drop offset pack) body (length content) len
  pub stream : inflated (drop (offset + len) pack) ≡ Some content

-- The object at an offset has a kind and a content: the entry has them whole, or it is a delta to
-- the object at an offset before it, or a delta to the object with an id.
pub data StandsAt (inflated : List ℕ → Option (List ℕ)) (place : ObjectId → Option ℕ) (pack : List ℕ) : ℕ → Kind → List ℕ → Type 0 where
  whole : (offset : ℕ) (kind : Kind) (content : List ℕ) → HasStream inflated pack offset (Whole kind) content → StandsAt inflated place pack offset kind content
  behind : (offset distance : ℕ) (kind : Kind) (base delta content : List ℕ) → HasStream inflated pack offset (OffsetDelta distance) delta
      → 0 < distance → distance < offset → StandsAt inflated place pack (offset - distance) kind base → IsDelta base delta content
      → StandsAt inflated place pack offset kind content
  of : (offset : ℕ) (id : ObjectId) (at : ℕ) (kind : Kind) (base delta content : List ℕ) → HasStream inflated pack offset (IdDelta id) delta
      → place id ≡ Some at → StandsAt inflated place pack at kind base → IsDelta base delta content → StandsAt inflated place pack offset kind content
