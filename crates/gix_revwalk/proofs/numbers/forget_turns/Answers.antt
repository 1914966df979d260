use Rattle.std.proofs.Common.{◌∙◌, sym, ap, set, get_or, add-one, refl}
use Rattle.gix_revwalk.specs.Nodes.{unturned}
use Rattle.gix_revwalk.proofs.Changed.{changed, changed-more, changed-all}
use Rattle.gix_revwalk.proofs.numbers.forget_turns.Goals as goal

pub returns : goal.returns
returns g c = c.loop-node.invariant ∙ changed-all unturned c.args.nodes.now c.loop-node.node-index c.loop-node-test.false

pub loop-node-preserved : goal.loop-node-preserved
loop-node-preserved g c =
    ap (λ l. set l c.loop-node.node-index (unturned (get_or l c.loop-node.node-index c.node-item.result))) c.loop-node.invariant
    ∙ changed-more unturned c.args.nodes.now c.loop-node.node-index c.node-item.result c.loop-node-test.true
    ∙ ap (λ i. changed unturned i c.args.nodes.now) (sym (add-one c.loop-node.node-index))

pub loop-node-init : goal.loop-node-init
loop-node-init g c = refl
