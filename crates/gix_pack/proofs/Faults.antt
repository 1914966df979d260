-- Bytes with a fault are no index.
use Rattle.std.proofs.Common.{ℕ, List, arith}
use Rattle.gix_ids.proofs.Faults.{not-sorted}
use Rattle.gix_pack.specs.IndexForm.{IsIndex, IsFaulty, table_of}
use Rattle.gix_pack.specs.declared.index.fault.OpenFault.{OpenFault}
use Rattle.gix_pack.specs.declared.index.fault.OpenFault.TheVariants.{TooShort, Signature, Version, Size, Ids, NoOffset}

pub no-index : (s : List ℕ) (fault : OpenFault) → IsFaulty s fault → ¬ IsIndex s
no-index s TooShort wrong is = let long = is.header.long in absurd (omega (arith, wrong, long))
no-index s Signature wrong is = wrong is.header.signature
no-index s Version wrong is = wrong is.header.version
no-index s Size wrong is = wrong is.size
no-index s (Ids fault) wrong is = not-sorted s (table_of s) fault wrong is.sorted
no-index s NoOffset wrong is = wrong.2 (is.offsets wrong.0 wrong.1)
