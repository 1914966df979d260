use Rattle.std.proofs.Common.{sym}
use Rattle.gix_spec.proofs.Marked.{without_name-none, without_name-braces, without_name-head}
use Rattle.gix_spec.proofs.spec.parse.at_part.without_name.Goals as goal

pub returns-in_default : goal.returns-in_default
returns-in_default g c = rw (without_name-none c.args.text.now (sym c.in_default.ensures)) (rw c.nothing.ensures at c.read.ensures)

pub returns-then-begins : goal.returns-then-begins
returns-then-begins g c = rw (without_name-braces c.args.text.now c.in-Some.after.now (sym c.in-Some.ensures) (sym c.if-begins.ensures)) c.in_braces.ensures

pub returns : goal.returns
returns g c = rw (without_name-head c.args.text.now c.in-Some.after.now (sym c.in-Some.ensures) (sym c.if-begins.ensures)) (rw c.piece.ensures at c.read-2.ensures)
