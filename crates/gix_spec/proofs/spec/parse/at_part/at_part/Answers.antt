use Rattle.std.proofs.Common.{sym}
use Rattle.gix_spec.proofs.Marked.{at_part-none, at_part-braces, at_part-bare}
use Rattle.gix_spec.proofs.spec.parse.at_part.at_part.Goals as goal

pub returns-in_default : goal.returns-in_default
returns-in_default g c = rw (at_part-none c.args.own.now c.args.text.now (sym c.in_default.ensures)) (rw c.nothing.ensures at c.read.ensures)

pub returns-then-begins : goal.returns-then-begins
returns-then-begins g c =
    rw (at_part-braces c.args.own.now c.args.text.now c.in-Some.after.now (sym c.in-Some.ensures) (sym c.if-begins.ensures)) c.in_braces.ensures

pub returns : goal.returns
returns g c =
    rw (at_part-bare c.args.own.now c.args.text.now c.in-Some.after.now (sym c.in-Some.ensures) (sym c.if-begins.ensures)) (rw c.refusal-fault.ensures at c.read-2.ensures)
