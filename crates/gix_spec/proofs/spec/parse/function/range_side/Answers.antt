use Rattle.std.proofs.Common.{[], ◌∷◌, refl}
use Rattle.gix_spec.specs.Pieces.{range}
use Rattle.gix_spec.specs.Reading.{implied_head, second_side}
use Rattle.gix_spec.proofs.Runs.{performs_fault, performs_then, performs_stop}
use Rattle.gix_spec.proofs.spec.parse.function.range_side.Goals as goal

pub returns-then-first : goal.returns-then-first
returns-then-first g c = rw (c.if-first.true, c.fault.ensures) (performs_fault g.D.Listener.step refl)

pub returns-in_err-imply_head : goal.returns-in_err-imply_head
returns-in_err-imply_head g c = rw c.if-first.false
    (performs_stop g.D.Listener.step {ps = implied_head c.args.first.text.now c.args.first.rest.now} (range c.args.kind ∷ second_side c.args.after.now) c.in_err-imply_head.ensures c.from_residual.ensures.1)

pub returns-in_err-perform : goal.returns-in_err-perform
returns-in_err-perform g c = rw c.if-first.false
    (performs_then g.D.Listener.step c.in_ok-imply_head.ensures
    (performs_stop g.D.Listener.step {ps = range c.args.kind ∷ []} (second_side c.args.after.now) c.in_err-perform.ensures c.from_residual-in_err-perform.ensures.1))

pub returns : goal.returns
returns g c = rw c.if-first.false
    (performs_then g.D.Listener.step c.in_ok-imply_head.ensures
    (performs_then g.D.Listener.step {ps = range c.args.kind ∷ []} c.in_ok-perform.ensures c.second.ensures))
