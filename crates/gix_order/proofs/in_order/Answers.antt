use Rattle.std.proofs.lemmas.Bool.{MatchBool-at_true, MatchBool-at_false}
use Rattle.gix_order.proofs.in_order.Goals as goal

pub show-init : goal.show-init
show-init c = c.in_ok-walk.ensures

pub show-preserved : goal.show-preserved
show-preserved c =
    (MatchBool-at_true _ _ c.if-branch.true (c.in_ok-show_next.ensures c.args.order c.show.invariant)).stands

pub show-smaller : goal.show-smaller
show-smaller c =
    (MatchBool-at_true _ _ c.if-branch.true (c.in_ok-show_next.ensures c.args.order c.show.invariant)).nearer

pub returns : goal.returns
returns c =
    let none = MatchBool-at_false _ _ c.if-branch.false (c.in_ok-show_next.ensures c.args.order c.show.invariant) in
    rw none.same none.ends
