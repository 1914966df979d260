use Rattle.std.proofs.Common.{ℕ, List}
use Rattle.gix_graph_rows.specs.Kept.{AreBlocks}
use Rattle.gix_graph_rows.proofs.blocks.Blocks.new.Given as goal

abbrev pub invariant-loop : goal.invariant-loop
invariant-loop g l = (s : List ℕ) → AreBlocks s l.windows.items
