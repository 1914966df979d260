use Rattle.std.proofs.Common.{rules}
use Rattle.std.proofs.lemmas.List.{length-map}
use Rattle.gix_graph_rows.proofs.rows.GraphRows.open.Goals as goal

pub invariant_of-result : goal.invariant_of-result
invariant_of-result g c = record { known = λ k. c.in_ok-new.ensures _ (simp length-map (search rules)) }
