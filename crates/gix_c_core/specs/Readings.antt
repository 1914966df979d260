-- Revisions as they are read for C.
use Rattle.std.specs.Prelude.{◌≡◌, ℕ, List, Some, IfSome, Bool, true, false, Result, Ok, Err}
use Rattle.gix_revision.specs.Ends.{IsPartOf}
use Rattle.gix_revision.specs.History.{History}
use Rattle.gix_revision.specs.Types.Spec.{Spec}
use Rattle.gix_revision.specs.Types.Time.{Time}
use Rattle.gix_revision.specs.Types.Error.{Error}
use Rattle.gix_revision.specs.Types.Error.TheVariants.{OutOfMemory, Refused}
use Rattle.gix_resolve.specs.Known.{Known}
use Rattle.gix_resolve.specs.Resolved.{Resolved}
use Rattle.gix_resolve.specs.RevParse.{RevParsed}
use Rattle.gix_c_core.specs.FaultPlaces.{IsFaultAt}
use Rattle.gix_c_core.specs.Spans.{spec_at}
use Rattle.gix_c_core.specs.declared.resolved.Reading.{Reading}
use Rattle.gix_c_core.specs.declared.resolved.Reading.TheVariants as read

-- The answer is what the text means, by the rules of `rev_parse` if refs come first, or by those of
-- `resolve`.
abbrev pub MeansBy : Bool → (text : List ℕ) → Time → Known → History → Result Spec Error → Type 0
MeansBy true text now known h answer = RevParsed text now known h answer
MeansBy false text now known h answer = Resolved text now known h answer

-- The part that a refusal names is a part of the text.
abbrev pub NamesPart : List ℕ → Result Spec Error → Type 0
NamesPart text (Ok spec) = Unit {0}
NamesPart text (Err (Refused fault input first second)) = IfSome input (λ p. IsPartOf p.now text)
NamesPart text (Err OutOfMemory) = Unit {0}

-- The reading is the set of the answer, the fault with its place in the text, or no memory.
abbrev pub ReadsAs : List ℕ → Result Spec Error → Reading → Type 0
ReadsAs text (Ok spec) (read.Set span) = spec_at span ≡ Some spec
ReadsAs text (Err error) (read.Fault place) = IsFaultAt text error place
ReadsAs text (Err OutOfMemory) read.OutOfMemory = Unit {0}
ReadsAs text _ _ = ⊥

-- The reading is that of an answer that Means allows.
pub record IsReading (Means : Result Spec Error → Type 0) (text : List ℕ) (reading : Reading) : Type 0 where
  pub answer : Result Spec Error
  pub means : Means answer
  pub reads : ReadsAs text answer reading
