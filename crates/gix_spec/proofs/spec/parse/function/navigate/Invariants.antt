use Rattle.std.proofs.Common.{Option, Result, length}
use Rattle.gix_spec.specs.declared.spec.parse.Error.{Error}
use Rattle.gix_spec.specs.declared.spec.parse.context.Stopped.{Stopped}
use Rattle.gix_spec.specs.declared.spec.parse.part.Behind.{Behind}
use Rattle.gix_spec.specs.Context.{Context, context_of}
use Rattle.gix_spec.specs.Steps.{navigation}
use Rattle.gix_spec.specs.Performs.{Reads}
use Rattle.gix_spec.proofs.spec.parse.function.navigate.Given as goal

-- who reads the steps of what is left from here, has read those of the whole
abbrev pub invariant-steps : goal.invariant-steps
invariant-steps g l = record {
  onward : (w : g.row.D.Denot) (k : Context) (out : Result Behind Stopped) (error : Option Error) →
      Reads g.D.Listener.step (navigation l.rest) l.delegate (context_of l.context) w k out error →
      Reads g.D.Listener.step (navigation l.fn.text) l.fn.delegate (context_of l.fn.context) w k out error;
}

abbrev pub decreases-steps : goal.decreases-steps
decreases-steps g l = length l.rest
