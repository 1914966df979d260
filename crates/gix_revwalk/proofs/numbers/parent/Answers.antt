use Rattle.std.proofs.Common.{◌∙◌, ap, sym, length, arith}
use Rattle.gix_revwalk.specs.History.{parents_in}
use Rattle.gix_revwalk.proofs.Growth.{item_at-or}
use Rattle.gix_revwalk.proofs.numbers.parent.Goals as goal

pub bounds-parents-i : goal.bounds-parents-i
bounds-parents-i g c =
    let w = c.requires.within in
    let same = ap length (c.parents.ensures ∙ sym (ap parents_in (c.value.ensures.agrees w.0 w.1))) in
    omega (arith, same, w.2)

pub returns : goal.returns
returns g c id is =
    let w = c.requires.within in
    let same = ap length (c.parents.ensures ∙ sym (ap parents_in (c.value.ensures.agrees w.0 w.1))) in
    rw (c.value.ensures.agrees id is, ← c.parents.ensures) (item_at-or c.parents.result.now c.args.i _ (omega (arith, same, w.2)))
