use Rattle.std.proofs.Common.{refl, length-set, ap, ◌∙◌, length, List, ℕ}
use Rattle.gix_order.proofs.Times.{one_added}
use Rattle.gix_order.proofs.counts.add_all.Goals as goal

pub loop-parent-preserved : goal.loop-parent-preserved
loop-parent-preserved c =
    let i = c.loop-parent.parent-index in
    let left = c.loop-parent.left.items in
    record {
      len = ap (λ (l : List ℕ). length l) c.in_ok-add_one.ensures ∙ length-set left _ _ ∙ c.loop-parent.invariant.len;
      sums = λ p h. rw c.in_ok-add_one.ensures (one_added left c.args.left.now.items c.args.parents.now i p _ c.loop-parent-test.true refl c.loop-parent.invariant.len h (c.loop-parent.invariant.sums p h));
    }
