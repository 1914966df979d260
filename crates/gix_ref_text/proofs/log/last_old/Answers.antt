use Rattle.std.proofs.Common.{sym, ap, ◌∙◌, arith}
use Rattle.gix_ref_text.specs.Changes.{last_old}
use Rattle.gix_ref_text.proofs.Changes.{null-last, old-last}
use Rattle.gix_ref_text.proofs.log.last_old.Goals as goal

pub returns-then-not-is_null : goal.returns-then-not-is_null
returns-then-not-is_null g c =
    sym (c.loop.invariant.0 ∙ ap (λ x. last_old x) c.in-Some.ensures.cases.0 ∙ old-last c.in-Some.front.now c.in-Some.entry.now (sym c.if-not-is_null.ensures))

pub loop-preserved : goal.loop-preserved
loop-preserved g c =
    let e = c.in-Some.ensures.cases.0 in
    (c.loop.invariant.0 ∙ ap (λ x. last_old x) e ∙ null-last c.in-Some.front.now c.in-Some.entry.now (sym c.if-not-is_null.ensures), omega (arith, c.in-Some.ensures.cases.1, c.loop.invariant.1))
