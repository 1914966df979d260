-- Answers of a delegate to a call.
use Rattle.std.specs.Prelude.{Result, Ok, Err, cond}
use Rattle.gix_base.specs.declared.error.Exn.{Exn, out-Exn}

-- A delegate accepts a call, refuses it with an Exn, or reports that memory ran out.
pub data Answer : Type 0 where
  accepted : Answer
  refused : Exn → Answer
  no_memory : Answer

-- The answer that the result of a call stands for. An Exn with out_of_memory says that memory ran
-- out; any other Exn is a refusal.
abbrev pub answer_of : Result (Unit {0}) Exn → Answer
answer_of (Ok u) = accepted
answer_of (Err e) = cond (out-Exn e).out_of_memory no_memory (refused e)
