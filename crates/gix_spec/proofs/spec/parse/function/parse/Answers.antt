use Rattle.std.proofs.Common.{Err}
use Rattle.gix_spec.specs.Context.{start}
use Rattle.gix_spec.specs.Reading.{pieces_of}
use Rattle.gix_spec.proofs.Runs.{runs_whole, runs_stopped, is_told, beginning_of_run, beginning_of_parse}
use Rattle.gix_spec.proofs.Memory.{memory_of_delegate}
use Rattle.gix_spec.proofs.spec.parse.function.parse.Goals as goal

pub unwrap-requires : goal.unwrap-requires
unwrap-requires g c = is_told g.D.Listener.step c.in-Err.ensures

pub returns-in-Ok-clause-run : goal.returns-in-Ok-clause-run
returns-in-Ok-clause-run g c = runs_whole g.D.Listener.step (rw c.new-context.ensures.known at c.in-Ok.ensures)

pub returns-in-Ok-clause-beginning : goal.returns-in-Ok-clause-beginning
returns-in-Ok-clause-beginning g c = beginning_of_run g.D.Listener.step (runs_whole g.D.Listener.step (rw c.new-context.ensures.known at c.in-Ok.ensures))

pub returns-in-Ok-clause-memory : goal.returns-in-Ok-clause-memory
returns-in-Ok-clause-memory g c frugal wanting = absurd (let no = wanting in cc)

pub returns-clause-run : goal.returns-clause-run
returns-clause-run g c = runs_stopped g.D.Listener.step _ c.unwrap.ensures (rw c.new-context.ensures.known at c.in-Err.ensures)

pub returns-clause-beginning : goal.returns-clause-beginning
returns-clause-beginning g c = beginning_of_parse g.D.Listener.step _ (Err c.unwrap.result) (runs_stopped g.D.Listener.step _ c.unwrap.ensures (rw c.new-context.ensures.known at c.in-Err.ensures))

pub returns-clause-memory : goal.returns-clause-memory
returns-clause-memory g c frugal wanting =
    let ran = runs_stopped g.D.Listener.step _ c.unwrap.ensures (rw c.new-context.ensures.known at c.in-Err.ensures) in
    memory_of_delegate g.D.Listener.step _ (pieces_of c.args.input.now) (start c.args.now) frugal ran wanting
