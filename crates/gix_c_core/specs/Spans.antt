-- Revision ranges and sets as C has them.
use Rattle.std.specs.Prelude.{◌≡◌, ℕ, ℤ, pos, ◌+◌, ◌==◌, List, Option, Some, None, Result, Ok, Err, if◌then◌else◌, length, map}
use Rattle.gix_base.specs.declared.hash.ObjectId.{ObjectId}
use Rattle.gix_revision.specs.History.{History}
use Rattle.gix_revision.specs.Types.Spec.{Spec}
use Rattle.gix_revision.specs.Types.Spec.TheVariants.{Include, Exclude, Range, Merge, IncludeOnlyParents, ExcludeParents}
use Rattle.gix_revision.specs.FaultTexts.{number_of}
use Rattle.gix_revision.specs.Types.Error.{Error}
use Rattle.gix_revision.specs.Types.Error.TheVariants.{OutOfMemory, Refused}
use Rattle.gix_revwalk.specs.Sizes.{HasSize, AtMost}
use Rattle.gix_resolve.specs.ListMeaning.{IsMeant, IsPage}
use Rattle.gix_c_core.specs.Answers.{id_of, bytes_in, IsWritten}
use Rattle.gix_c_core.specs.FaultPlaces.{IsFaultAt}
use Rattle.gix_c_core.specs.declared.faults.FaultPlace.{FaultPlace}
use Rattle.gix_c_core.specs.declared.revisions.Span.{Span}

-- The spec that the kind and the ids of s stand for, if the kind is one from 0 to 5 (gitrevisions,
-- "Specifying Ranges").
abbrev pub spec_at : Span → Option Spec
spec_at s =
    (if s.kind == 0 then Some (Include (id_of s.first)) else
    (if s.kind == 1 then Some (Exclude (id_of s.first)) else
    (if s.kind == 2 then Some (Range (id_of s.first) (id_of s.second)) else
    (if s.kind == 3 then Some (Merge (id_of s.first) (id_of s.second)) else
    (if s.kind == 4 then Some (IncludeOnlyParents (id_of s.first)) else
    (if s.kind == 5 then Some (ExcludeParents (id_of s.first)) else None))))))

-- The span stands for a spec that is one of the results that Means allows.
pub record HasSpec (Means : Result Spec Error → Type 0) (span : Span) : Type 0 where
  pub spec : Spec
  pub stands : spec_at span ≡ Some spec
  pub means : Means (Ok spec)

-- The error is a fault, and the code is 100 plus its number.
abbrev pub IsCodeOf : Error → ℤ → Type 0
IsCodeOf (Refused fault input first second) code = code ≡ pos (100 + number_of fault)
IsCodeOf OutOfMemory code = ⊥

-- The text is refused by an error that Means allows. It is the fault of the code and of place.
pub record HasFault (Means : Result Spec Error → Type 0) (text : List ℕ) (place : FaultPlace) (code : ℤ) : Type 0 where
  pub error : Error
  pub means : Means (Err error)
  pub told : IsCodeOf error code
  pub placed : IsFaultAt text error place

-- A page of the commits of the span after the bound, as many as fit, is counted and written.
pub record HasPage (h : History) (span : Span) (bound : Option ObjectId) (old new : List (List ℕ)) (count : ℕ) : Type 0 where
  pub spec : Spec
  pub stands : spec_at span ≡ Some spec
  pub ids : List ObjectId
  pub page : IsPage h spec bound (length old) ids
  pub written : IsWritten (map bytes_in ids) old new count

-- The span has exactly count commits (git-rev-list, "--count").
pub record HasCount (h : History) (span : Span) (count : ℕ) : Type 0 where
  pub spec : Spec
  pub stands : spec_at span ≡ Some spec
  pub size : HasSize (IsMeant h spec) count

-- Exactly ahead commits are reachable from ours and not from theirs, and exactly behind from theirs
-- and not from ours (git-rev-list, "--left-right" with "--count").
abbrev pub HasSides : History → (ours theirs : ObjectId) → (ahead behind : ℕ) → Type 0
HasSides h ours theirs ahead behind =
    HasSize (IsMeant h (Range theirs ours)) ahead × HasSize (IsMeant h (Range ours theirs)) behind

-- At most ahead commits are reachable from ours and not from theirs, and at most behind from theirs
-- and not from ours.
abbrev pub HasSidesAtMost : History → (ours theirs : ObjectId) → (ahead behind : ℕ) → Type 0
HasSidesAtMost h ours theirs ahead behind =
    AtMost ahead (IsMeant h (Range theirs ours)) × AtMost behind (IsMeant h (Range ours theirs))
