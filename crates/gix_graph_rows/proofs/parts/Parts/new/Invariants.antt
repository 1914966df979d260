use Rattle.std.proofs.Common.{ℕ, List}
use Rattle.gix_ids.specs.declared.table.Table.{Table}
use Rattle.gix_graph_rows.specs.Kept.{AreParts}
use Rattle.gix_graph_rows.proofs.parts.Parts.new.Given as goal

abbrev pub invariant-loop : goal.invariant-loop
invariant-loop g l = (s : List ℕ) (t : Table) → AreParts s t l.parts.items
