use Rattle.std.proofs.Common.{[]}
use Rattle.revtool.proofs.Reading.{TakesMore-none, TakesMore-then}
use Rattle.revtool.proofs.input.read_all.Goals as goal

pub loop-init : goal.loop-init
loop-init g c = (rw c.new-text.ensures.items (TakesMore-none _), c.in_ok-room.ensures)

pub returns-then-branch-clause-bytes : goal.returns-then-branch-clause-bytes
returns-then-branch-clause-bytes g c = TakesMore-then _ _ _ [] _ _ c.loop.invariant.0 c.in_ok-read_once.ensures.taken

pub loop-preserved : goal.loop-preserved
loop-preserved g c = (TakesMore-then _ _ _ [] _ _ c.loop.invariant.0 c.in_ok-read_once.ensures.taken, c.loop.invariant.1)
