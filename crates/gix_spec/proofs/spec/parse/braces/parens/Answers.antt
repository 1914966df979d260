use Rattle.std.proofs.Common.{sym, ◌∙◌}
use Rattle.gix_spec.proofs.Opened.{parens_err, parens_ok}
use Rattle.gix_spec.proofs.spec.parse.braces.parens.Goals as goal

pub returns-in-Ok : goal.returns-in-Ok
returns-in-Ok g c = parens_ok c.args.text.now c.in-Ok.field-0 (sym c.begins.ensures ∙ c.if-not-begins.false) c.in-Ok.ensures

pub returns-in-Err : goal.returns-in-Err
returns-in-Err g c = rw c.error.ensures (parens_err g.row.A.Denot c.args.text c.in-Err.why (sym c.begins.ensures ∙ c.if-not-begins.false) c.in-Err.ensures)
