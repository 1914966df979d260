use Rattle.gix_spec.proofs.Pairs.{close_of-is, braced_there, braced_plain, braced_none}
use Rattle.gix_spec.proofs.spec.parse.braces.opened.Goals as goal

pub returns-in_default : goal.returns-in_default
returns-in_default g c = braced_none c.args.text.now c.in_default.ensures.none

pub returns-then-not-escapes : goal.returns-then-not-escapes
returns-then-not-escapes g c =
    let text = c.args.text.now in
    let pair = c.in-Some.field-0 in
    let at = c.in-Some.ensures in
    (braced_plain text pair.place pair.escapes at.place at.behind at.escapes c.if-not-escapes.true, rw (close_of-is text pair.place at.place) at.behind, λ e. tt)

pub returns-in_default-without_escapes : goal.returns-in_default-without_escapes
returns-in_default-without_escapes g c =
    let pair = c.in-Some.field-0 in
    let at = c.in-Some.ensures in rw (braced_there c.args.text.now pair.place pair.escapes at.place at.escapes) c.if-not-escapes.false

pub returns : goal.returns
returns g c =
    let text = c.args.text.now in
    let pair = c.in-Some.field-0 in
    let at = c.in-Some.ensures in
    (rw c.in-Ok.ensures (braced_there text pair.place pair.escapes at.place at.escapes), rw (close_of-is text pair.place at.place) at.behind, λ e. cc (e, c.if-not-escapes.false))
