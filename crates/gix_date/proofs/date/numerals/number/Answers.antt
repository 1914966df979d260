use Rattle.std.proofs.Common.{arith, sym, ◌∙◌}
use Rattle.gix_date.proofs.Numbers.{number_after-first, number_after-none}
use Rattle.gix_date.proofs.date.numerals.number.Goals as goal

pub returns-in_err-number : goal.returns-in_err-number
returns-in_err-number c =
    let grows = number_after-first c.loop-rest.rest.now c.loop-rest.number c.in-len1-up.len_at_least in
    let same = c.loop-rest.invariant.0 in
    let past = c.in_err-number.ensures in
    rw c.from_residual.ensures (λ h. past (omega (arith, grows, same, h)))

pub returns : goal.returns
returns c =
    let same = c.loop-rest.invariant.0 in
    let none = number_after-none c.loop-rest.rest.now c.loop-rest.number c.in_default.len_below in
    let is = sym none ∙ same in
    (omega (arith, is), is)
