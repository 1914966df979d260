use Rattle.std.proofs.Common.{◌++◌}
use Rattle.gix_spec.specs.Reading.{second_side, revision_at, implied_head, end_at, unless_broken}
use Rattle.gix_spec.proofs.Runs.{performs_then, performs_stop}
use Rattle.gix_spec.proofs.Readings.{second_reads}
use Rattle.gix_spec.proofs.spec.parse.function.second.Goals as goal

pub returns-in_err-side : goal.returns-in_err-side
unfolding second_side
returns-in_err-side g c =
    let text = c.args.text.now in
    let side = revision_at text in
    performs_stop g.D.Listener.step {ps = side.pieces} (unless_broken side.way (implied_head text side.rest ++ end_at side.rest)) c.in_err-side.ensures.calls c.from_residual.ensures.1

pub returns-in_err-imply_head : goal.returns-in_err-imply_head
unfolding second_side
returns-in_err-imply_head g c =
    let text = c.args.text.now in
    let rest = c.in_ok-side.side.rest.now in
    second_reads g.D.Listener.step (revision_at text) (λ x. implied_head text x ++ end_at x) c.in_ok-side.ensures
    (performs_stop g.D.Listener.step {ps = implied_head text rest} (end_at rest) c.in_err-imply_head.ensures c.from_residual-in_err-imply_head.ensures.1)

pub returns : goal.returns
unfolding second_side
returns g c =
    let text = c.args.text.now in
    second_reads g.D.Listener.step (revision_at text) (λ x. implied_head text x ++ end_at x) c.in_ok-side.ensures
    (performs_then g.D.Listener.step c.in_ok-imply_head.ensures c.end.ensures)
