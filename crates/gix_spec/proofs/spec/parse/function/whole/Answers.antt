use Rattle.gix_spec.specs.Reading.{pieces_of, excluded_at, sides_at}
use Rattle.gix_spec.proofs.Runs.{performs_then, performs_stop}
use Rattle.gix_spec.proofs.spec.parse.function.whole.Goals as goal

pub returns-in_err-exclude : goal.returns-in_err-exclude
unfolding pieces_of
returns-in_err-exclude g c =
    let mark = c.strip_exclude-excluded.result in
    rw (← c.strip_exclude-excluded.ensures) (performs_stop g.D.Listener.step {ps = excluded_at mark.0} (sides_at mark.0 mark.1.now) c.in_err-exclude.ensures c.from_residual.ensures.1)

pub returns : goal.returns
unfolding pieces_of
returns g c = rw (← c.strip_exclude-excluded.ensures) (performs_then g.D.Listener.step c.in_ok-exclude.ensures c.sides.ensures)
