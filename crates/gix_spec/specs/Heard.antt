-- The calls of a printed spec, for a delegate that accepts every call.
use Rattle.std.specs.Prelude.{◌≡◌, List, [], ◌∷◌, ◌++◌, None}
use Rattle.gix_base.specs.declared.date.Time.{Time}
use Rattle.gix_base.specs.declared.hash.ObjectId.{ObjectId}
use Rattle.gix_base.specs.Hash.{id_text, IsId}
use Rattle.gix_spec.specs.declared.spec.Spec.{Spec}
use Rattle.gix_spec.specs.declared.spec.Spec.TheVariants.{Include, Exclude, Range, Merge, IncludeOnlyParents, ExcludeParents}
use Rattle.gix_spec.specs.Call.{Call, prefix, kind, done}
use Rattle.gix_spec.specs.Answer.{Answer, accepted}
use Rattle.gix_spec.specs.Tree.{fine}
use Rattle.gix_spec.specs.Run.{IsRun, Outcome, ended}
use Rattle.gix_spec.specs.Parse.{meaning_of}
use Rattle.gix_spec.specs.Printed.{spec_text, kind_of}

-- A delegate that accepts every call, and records it.
abbrev pub Accepts : List Call → Call → Answer → List Call → Type 0
Accepts s c a t = (a ≡ accepted) × (t ≡ s ++ c ∷ [])

-- The prefix call with all 40 digits of the id a.
abbrev pub id_call : ObjectId → Call
id_call a = prefix (id_text a) None

-- The calls of a printed spec: its ids in order, its kind (except for Include), and done.
abbrev pub heard_of : Spec → List Call
heard_of (Include a) = id_call a ∷ done ∷ []
heard_of (Exclude a) = kind (kind_of (Exclude a)) ∷ id_call a ∷ done ∷ []
heard_of (Range a b) = id_call a ∷ kind (kind_of (Range a b)) ∷ id_call b ∷ done ∷ []
heard_of (Merge a b) = id_call a ∷ kind (kind_of (Merge a b)) ∷ id_call b ∷ done ∷ []
heard_of (IncludeOnlyParents a) = id_call a ∷ kind (kind_of (IncludeOnlyParents a)) ∷ done ∷ []
heard_of (ExcludeParents a) = id_call a ∷ kind (kind_of (ExcludeParents a)) ∷ done ∷ []

-- Every parse of the printed spec makes exactly these calls, and ends well.
abbrev pub ReadsBack : Spec → Type 0
ReadsBack spec = (now : Time) (s : List Call) (o : Outcome) → IsRun Accepts [] (meaning_of (spec_text spec) now) s o →
    (s ≡ heard_of spec) × (o ≡ ended fine)

-- Each id of the spec has twenty bytes.
abbrev pub HasIds : Spec → Type 0
HasIds (Include a) = IsId a
HasIds (Exclude a) = IsId a
HasIds (Range a b) = IsId a × IsId b
HasIds (Merge a b) = IsId a × IsId b
HasIds (IncludeOnlyParents a) = IsId a
HasIds (ExcludeParents a) = IsId a

-- Every spec whose ids have twenty bytes is read back from its text.
abbrev pub PrintedReadsBack : Type 0
PrintedReadsBack = (spec : Spec) → HasIds spec → ReadsBack spec
