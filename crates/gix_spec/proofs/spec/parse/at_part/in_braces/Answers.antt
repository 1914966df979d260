use Rattle.gix_spec.specs.AtParts.{at_braces}
use Rattle.gix_spec.proofs.Opened.{braces_read, braces_stop}
use Rattle.gix_spec.proofs.spec.parse.at_part.in_braces.Goals as goal

pub returns-in-Ok : goal.returns-in-Ok
unfolding at_braces
returns-in-Ok g c = braces_read g.D.Listener.step c.args.text.now _ c.in-Ok.braces c.in-Ok.ensures c.inside.ensures

pub returns-in-Err : goal.returns-in-Err
unfolding at_braces
returns-in-Err g c = rw c.unopened.ensures (braces_stop g.D.Listener.step c.args.text _ c.in-Err.why c.in-Err.ensures)
