use Rattle.std.proofs.Common.{◌≡◌}
use Rattle.gix_revwalk.specs.Nodes.{unturned}
use Rattle.gix_revwalk.proofs.Changed.{changed}
use Rattle.gix_revwalk.proofs.numbers.forget_turns.Given as goal

abbrev pub invariant-loop-node : goal.invariant-loop-node
invariant-loop-node g l = l.nodes ≡ changed unturned l.node-index l.fn.nodes
