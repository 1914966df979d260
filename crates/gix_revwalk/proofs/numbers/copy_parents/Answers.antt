use Rattle.std.proofs.Common.{◌∙◌, refl}
use Rattle.std.proofs.lemmas.List.{take_all}
use Rattle.gix_revwalk.proofs.PastSteps.{links-push}
use Rattle.gix_revwalk.proofs.numbers.copy_parents.Goals as goal

pub loop-parent-init : goal.loop-parent-init
loop-parent-init g c = rw c.requires refl

pub loop-parent-preserved : goal.loop-parent-preserved
loop-parent-preserved g c = links-push c.loop-parent.into.items _ c.args.parents.now c.loop-parent.parent-index _ _ c.in-Ok.ensures.items c.loop-parent.invariant refl c.loop-parent-test.true

pub returns : goal.returns
returns g c = c.loop-parent.invariant ∙ take_all c.loop-parent.parent-index c.args.parents.now c.loop-parent-test.false
