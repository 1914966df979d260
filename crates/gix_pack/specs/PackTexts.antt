-- The texts of the errors.
use Rattle.std.specs.Prelude.{ℕ, List, codes}
use Rattle.gix_ids.specs.TableFaultText.{table_fault_text}
use Rattle.gix_pack.specs.declared.delta.fault.DeltaFault.{DeltaFault}
use Rattle.gix_pack.specs.declared.delta.fault.DeltaFault.TheVariants.{SourceSize, TargetSize, Truncated, Outside, Reserved}
use Rattle.gix_pack.specs.declared.delta.fault.ApplyError.{ApplyError}
use Rattle.gix_pack.specs.declared.delta.fault.ApplyError.TheVariants.{Malformed, TooLarge, OutOfMemory}
use Rattle.gix_pack.specs.declared.index.fault.OpenFault.{OpenFault}
use Rattle.gix_pack.specs.declared.index.fault.OpenFault.TheVariants.{TooShort, Signature, Version, Size, Ids, NoOffset}

-- The text that a fault of a delta prints.
abbrev pub delta_fault_text : DeltaFault → List ℕ
delta_fault_text SourceSize = codes "delta is not for a base of this size"
delta_fault_text TargetSize = codes "delta makes another size than it says"
delta_fault_text Truncated = codes "delta ends within an instruction"
delta_fault_text Outside = codes "delta copies bytes that its base does not have"
delta_fault_text Reserved = codes "delta has the reserved instruction"

-- The text that an error of applying a delta prints.
abbrev pub apply_error_text : ApplyError → List ℕ
apply_error_text (Malformed fault) = delta_fault_text fault
apply_error_text TooLarge = codes "target of a delta is larger than the limit"
apply_error_text OutOfMemory = codes "out of memory"

-- The text that a fault of an index prints.
abbrev pub open_fault_text : OpenFault → List ℕ
open_fault_text TooShort = codes "index is too short"
open_fault_text Signature = codes "file is not an index of a pack"
open_fault_text Version = codes "index has a version other than 2"
open_fault_text Size = codes "index has another size than its tables"
open_fault_text (Ids fault) = table_fault_text fault
open_fault_text NoOffset = codes "index lacks an offset of 8 bytes"
