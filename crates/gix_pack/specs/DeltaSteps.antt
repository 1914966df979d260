-- What bodies say of an instruction, and of those that were followed.
use Rattle.std.specs.Prelude.{◌≡◌, ◌≢◌, ℕ, List, length, Result, Ok, Err}
use Rattle.gix_pack.specs.DeltaForm.{Addition, Makes, Breaks}
use Rattle.gix_pack.specs.declared.delta.step.Step.{Step}
use Rattle.gix_pack.specs.declared.delta.fault.DeltaFault.{DeltaFault}
use Rattle.gix_pack.specs.declared.delta.fault.DeltaFault.TheVariants.{SourceSize, TargetSize, Truncated, Outside, Reserved}
use Rattle.gix_pack.specs.declared.delta.fault.ApplyError.{ApplyError}
use Rattle.gix_pack.specs.declared.delta.fault.ApplyError.TheVariants.{Malformed, TooLarge, OutOfMemory}

-- A call read the instruction r, or has its fault.
abbrev pub IsStep : Result Step DeltaFault → Result Addition DeltaFault → Type 0
IsStep (Ok step) r = r ≡ Ok (record { added = step.added.now; rest = step.rest.now })
IsStep (Err fault) r = r ≡ Err fault

-- The fault is one that a single instruction can have.
abbrev pub IsStepFault : DeltaFault → Type 0
IsStepFault SourceSize = ⊥
IsStepFault TargetSize = ⊥
IsStepFault Truncated = Unit {0}
IsStepFault Outside = Unit {0}
IsStepFault Reserved = Unit {0}

-- Why the instructions of a text make no target of size bytes.
abbrev pub IsUnmade : List ℕ → List ℕ → ℕ → DeltaFault → Type 0
IsUnmade base text size SourceSize = ⊥
IsUnmade base text size TargetSize = (target : List ℕ) → Makes base text target → size ≢ length target
IsUnmade base text size Truncated = Breaks base Truncated text
IsUnmade base text size Outside = Breaks base Outside text
IsUnmade base text size Reserved = Breaks base Reserved text

-- Why a call made no target of size bytes: a fault of the instructions, or memory ran out.
abbrev pub IsStopped : List ℕ → List ℕ → ℕ → ApplyError → Type 0
IsStopped base text size (Malformed fault) = IsUnmade base text size fault
IsStopped base text size TooLarge = ⊥
IsStopped base text size OutOfMemory = Unit {0}
