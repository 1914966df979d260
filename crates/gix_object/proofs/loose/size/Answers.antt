use Rattle.std.proofs.Common.{ap, sym, ◌∙◌, decimal}
use Rattle.gix_object.proofs.Headers.{no-number, other-number}
use Rattle.gix_object.proofs.loose.size.Goals as goal

pub returns-in_default : goal.returns-in_default
returns-in_default c = no-number c.args.text.now c.in_default.ensures

pub returns-else-is_number : goal.returns-else-is_number
returns-else-is_number c =
    other-number c.args.text.now (λ is. let t = c.is_number.ensures.1 (is ∙ ap decimal (sym c.in-Some.ensures.1)) in let f = c.if-is_number.false in cc)
