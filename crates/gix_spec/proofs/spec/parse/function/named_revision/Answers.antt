use Rattle.gix_spec.specs.Names.{anchor_at}
use Rattle.gix_spec.specs.Steps.{navigation}
use Rattle.gix_spec.proofs.Parts.{reads_then, reads_ends, reads_stop}
use Rattle.gix_spec.proofs.spec.parse.function.named_revision.Goals as goal

pub returns-in_err-name : goal.returns-in_err-name
returns-in_err-name g c = reads_stop g.D.Listener.step (anchor_at c.args.text.now) navigation c.in_err-name.ensures c.from_residual.ensures.1

pub returns-in-Onward : goal.returns-in-Onward
returns-in-Onward g c = reads_then g.D.Listener.step (anchor_at c.args.text.now) navigation c.in_ok-name.ensures c.in-Onward.is c.navigate.ensures

pub returns-in-Closed : goal.returns-in-Closed
returns-in-Closed g c = reads_ends g.D.Listener.step (anchor_at c.args.text.now) navigation c.in_ok-name.ensures c.in-Closed.is
