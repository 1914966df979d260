use Rattle.std.proofs.Common.{ℕ, List}
use Rattle.gix_graph_rows.specs.Kept.{IsWindow}
use Rattle.gix_graph_rows.proofs.blocks.Window.move_to.Given as goal

abbrev pub invariant-loop : goal.invariant-loop
invariant-loop g l = (s : List ℕ) (n : ℕ) → IsWindow s (record { number = n; blocks = l.self.blocks })
