use Rattle.std.proofs.Common.{sym, ap, ◌∙◌, arith}
use Rattle.gix_ref_text.specs.Loose.{trimmed_end}
use Rattle.gix_ref_text.proofs.Trims.{trimmed-blank, trimmed-kept}
use Rattle.gix_ref_text.proofs.loose.trimmed_end.Goals as goal

pub returns-in_default : goal.returns-in_default
returns-in_default c =
    let e = c.in-Some.ensures.cases.0 in
    sym (c.loop.invariant.0 ∙ ap (λ x. trimmed_end x) e ∙ trimmed-kept c.in-Some.front.now c.in-Some.byte.now (sym c.is_blank.ensures ∙ c.if-is_blank.false) ∙ sym e)

pub loop-preserved : goal.loop-preserved
loop-preserved c =
    let e = c.in-Some.ensures.cases.0 in
    (c.loop.invariant.0 ∙ ap (λ x. trimmed_end x) e ∙ trimmed-blank c.in-Some.front.now c.in-Some.byte.now (sym c.is_blank.ensures ∙ c.if-is_blank.true), omega (arith, c.in-Some.ensures.cases.1))
