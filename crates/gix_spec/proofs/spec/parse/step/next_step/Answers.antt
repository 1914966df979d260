use Rattle.std.proofs.Common.{sym}
use Rattle.gix_spec.proofs.Marked.{step_at-tilde, step_at-caret, step_at-colon, step_at-none}
use Rattle.gix_spec.proofs.spec.parse.step.next_step.Goals as goal

pub returns-in-Some : goal.returns-in-Some
returns-in-Some g c = rw (step_at-tilde c.args.text.now c.in-Some.after.now (sym c.in-Some.ensures)) (rw c.ancestor.ensures at c.read.ensures)

pub returns-in-Some-after_mark : goal.returns-in-Some-after_mark
returns-in-Some-after_mark g c =
    rw (step_at-caret c.args.text.now c.in-Some-after_mark.after.now (sym c.in_default.ensures) (sym c.in-Some-after_mark.ensures)) c.parent_step.ensures

pub returns-in-Some-after_mark-2 : goal.returns-in-Some-after_mark-2
returns-in-Some-after_mark-2 g c =
    rw (step_at-colon c.args.text.now c.in-Some-after_mark-2.path.now (sym c.in_default.ensures) (sym c.in_default-after_mark.ensures) (sym c.in-Some-after_mark-2.ensures))
    (rw c.piece.ensures at c.read-in-Some-after_mark-2.ensures)

pub returns : goal.returns
returns g c =
    rw (step_at-none c.args.text.now (sym c.in_default.ensures) (sym c.in_default-after_mark.ensures) (sym c.in_default-after_mark-2.ensures)) (rw c.nothing.ensures at c.read-2.ensures)
