use Rattle.std.proofs.Common.{refl, take}
use Rattle.gix_spec.specs.Names.{anchor_at, at_part, named}
use Rattle.gix_spec.proofs.Parts.{reads_more, reads_stop}
use Rattle.gix_spec.proofs.Readings.{anchor_by-named}
use Rattle.gix_spec.proofs.spec.parse.function.anchor.Goals as goal

pub returns-then-len-eq0 : goal.returns-then-len-eq0
unfolding anchor_at
returns-then-len-eq0 g c = rw (← c.cut-len.ensures.place, c.if-len-eq0.true) c.without_name.ensures

pub returns-in_err-name : goal.returns-in_err-name
unfolding anchor_at
returns-in_err-name g c =
    let text = c.args.text.now in
    let n = c.cut-len.result in
    rw (← c.cut-len.ensures.place, anchor_by-named text n c.if-len-eq0.false)
    (reads_stop g.D.Listener.step (named text n) (at_part (take n text)) (rw c.named.ensures at c.in_err-name.ensures) c.from_residual.ensures.1)

pub returns : goal.returns
unfolding anchor_at
returns g c =
    let text = c.args.text.now in
    let n = c.cut-len.result in
    rw (← c.cut-len.ensures.place, anchor_by-named text n c.if-len-eq0.false)
    (reads_more g.D.Listener.step (named text n) (at_part (take n text)) refl (rw c.named.ensures at c.in_ok-name.ensures) c.at_part.ensures)
