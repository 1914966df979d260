-- A table with a fault is not sorted.
use Rattle.std.proofs.Common.{◌≡◌, ℕ, ◌<◌, List, subst}
use Rattle.gix_ids.specs.TableForm.{Fans, IsSorted, IsWrong}
use Rattle.gix_ids.specs.declared.table.Table.{Table}
use Rattle.gix_ids.specs.declared.fault.TableFault.{TableFault}
use Rattle.gix_ids.specs.declared.fault.TableFault.TheVariants.{Fanout, IdPlace, IdOrder}

pub not-sorted : (s : List ℕ) (t : Table) (fault : TableFault) → IsWrong s t fault → ¬ IsSorted s t
not-sorted s t Fanout wrong is = wrong.2 (is.fans wrong.0 wrong.1)
not-sorted s t IdPlace wrong is = wrong.2 (is.fanned wrong.0 wrong.1)
not-sorted s t IdOrder wrong is = wrong.2 (is.rises wrong.0 wrong.1)

-- nor is its fanout table right if that is the fault
pub not-fanned : (s : List ℕ) (t : Table) (fault : TableFault) → fault ≡ Fanout → IsWrong s t fault → ¬ ((b : ℕ) → b < 256 → Fans s t b)
not-fanned s t fault is wrong fans = let w = subst (IsWrong s t) is wrong in w.2 (fans w.0 w.1)
