-- The place of a fault in a revision, as C receives it.
use Rattle.std.specs.Prelude.{◌≡◌, ℕ, List, Option, Some, None, length}
use Rattle.std.specs.Option.{option_map}
use Rattle.memchr.specs.Find.{FindsLastNeedle}
use Rattle.gix_revision.specs.FaultTexts.{number_of}
use Rattle.gix_revision.specs.Types.Error.{Error}
use Rattle.gix_revision.specs.Types.Error.TheVariants.{OutOfMemory, Refused}
use Rattle.gix_c_core.specs.declared.faults.FaultPlace.{FaultPlace}

-- The part has len bytes, and its last occurrence in the text begins at start. If there is no part,
-- start and len are 0.
abbrev pub IsPartAt : (text : List ℕ) → Option (List ℕ) → (start len : ℕ) → Type 0
IsPartAt text None start len = (start ≡ 0) × (len ≡ 0)
IsPartAt text (Some part) start len = (len ≡ length part) × FindsLastNeedle text part (Some start)

-- The error is the fault with the number of at, and names the part of the text at its place.
abbrev pub IsFaultAt : (text : List ℕ) → Error → FaultPlace → Type 0
IsFaultAt text (Refused fault input first second) at =
    (at.number ≡ number_of fault) × IsPartAt text (option_map (λ p. p.now) input) at.start at.length
IsFaultAt text OutOfMemory at = ⊥
