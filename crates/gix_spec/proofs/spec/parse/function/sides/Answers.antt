use Rattle.std.proofs.Common.{◌≡◌, sym, ◌∙◌, ap, refl}
use Rattle.gix_spec.specs.Part.{onward, closed}
use Rattle.gix_spec.specs.Found.{way_of}
use Rattle.gix_spec.specs.Reading.{sides_at, revision_at, after_first}
use Rattle.gix_spec.proofs.Runs.{performs_then, performs_stop, performs_fault, performs_finished}
use Rattle.gix_spec.proofs.Readings.{after_first-left, after_first-onward, after_first-whole}
use Rattle.gix_spec.proofs.spec.parse.function.sides.Goals as goal

pub returns-in_err-side : goal.returns-in_err-side
unfolding sides_at
returns-in_err-side g c =
    let side = revision_at c.args.text.now in
    performs_stop g.D.Listener.step {ps = side.pieces} (after_first side.way c.args.excluded c.args.text.now side.rest) c.in_err-side.ensures.calls c.from_residual.ensures.1

pub returns-in-Onward : goal.returns-in-Onward
unfolding sides_at
returns-in-Onward g c =
    let side = revision_at c.args.text.now in
    let open_end : onward ≡ side.way = sym (ap way_of c.in-Onward.is) ∙ c.in_ok-side.ensures.behind.1 in
    performs_then g.D.Listener.step c.in_ok-side.ensures.calls
    (rw (after_first-onward side.way c.args.excluded c.args.text.now side.rest c.in_ok-side.side.rest.now open_end c.in_ok-side.ensures.behind.0) c.after_side.ensures)

pub returns-in-Closed : goal.returns-in-Closed
unfolding sides_at
returns-in-Closed g c =
    let side = revision_at c.args.text.now in
    let shut : closed ≡ side.way = sym (ap way_of c.in-Closed.is) ∙ c.in_ok-side.ensures.behind.1 in
    performs_then g.D.Listener.step c.in_ok-side.ensures.calls
    (rw (after_first-whole side.way c.args.excluded c.args.text.now side.rest c.in_ok-side.side.rest.now shut c.in_ok-side.ensures.behind.0 c.if-is_empty.ensures)
    (performs_finished g.D.Listener.step tt))

pub returns-in-Closed-2 : goal.returns-in-Closed-2
unfolding sides_at
returns-in-Closed-2 g c =
    let side = revision_at c.args.text.now in
    let shut : closed ≡ side.way = sym (ap way_of c.in-Closed.is) ∙ c.in_ok-side.ensures.behind.1 in
    performs_then g.D.Listener.step c.in_ok-side.ensures.calls
    (rw (after_first-left side.way c.args.excluded c.args.text.now side.rest c.in_ok-side.side.rest.now shut c.in_ok-side.ensures.behind.0 c.if-is_empty.ensures, c.fault.ensures)
    (performs_fault g.D.Listener.step refl))
