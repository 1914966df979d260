-- The texts of the faults of tables.
use Rattle.std.specs.Prelude.{ℕ, List, codes}
use Rattle.gix_ids.specs.declared.fault.TableFault.{TableFault}
use Rattle.gix_ids.specs.declared.fault.TableFault.TheVariants.{Fanout, IdPlace, IdOrder}

-- The text that a fault prints.
abbrev pub table_fault_text : TableFault → List ℕ
table_fault_text Fanout = codes "fanout table falls"
table_fault_text IdPlace = codes "id is not where the fanout table says"
table_fault_text IdOrder = codes "ids are not in ascending order"
