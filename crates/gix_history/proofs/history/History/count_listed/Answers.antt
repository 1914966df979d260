use Rattle.std.proofs.Common.{◌∙◌, sym}
use Rattle.gix_history.proofs.Counted.{listed-next, listed-passed}
use Rattle.gix_history.proofs.Grown.{lacks-of}
use Rattle.gix_history.proofs.history.History.count_listed.Goals as goal

pub returns-then-branch-clause-counted : goal.returns-then-branch-clause-counted
returns-then-branch-clause-counted g c = λ tips place is at.
    listed-passed tips _ _ place _ c.args.id is at (sym c.in_ok-has.ensures ∙ c.if-branch.true)

pub returns-then-branch-2-clause-counted : goal.returns-then-branch-2-clause-counted
returns-then-branch-2-clause-counted g c = λ tips place is at.
    listed-next tips _ _ place _ c.args.id _ _ c.next.result is at (lacks-of _ (sym c.in_ok-has.ensures ∙ c.if-branch.false))
    (c.in_ok-read_listed.ensures.read c.if-branch-2.true) c.next.ensures
