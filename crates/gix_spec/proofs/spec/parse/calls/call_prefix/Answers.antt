use Rattle.std.proofs.Common.{inl}
use Rattle.gix_spec.specs.Run.{goes_on, turns, runs_out, at_leaf}
use Rattle.gix_spec.proofs.spec.parse.calls.call_prefix.Goals as goal

pub returns-in_default : goal.returns-in_default
returns-in_default g c = record { performs = λ more w o r. goes_on c.in_default.ensures r }

pub returns-then-first : goal.returns-then-first
returns-then-first g c = rw c.without_memory.ensures record { performs = λ more. inl (runs_out (rw c.if-first.true at c.in-Err.ensures)) }

pub returns-in_default-find_ref : goal.returns-in_default-find_ref
returns-in_default-find_ref g c = record { performs = λ more w o r. turns (rw c.if-first.false at c.in-Err.ensures) (goes_on c.in_default-find_ref.ensures r) }

pub returns-then-second : goal.returns-then-second
returns-then-second g c = rw c.without_memory-then-second.ensures record { performs = λ more. inl (turns (rw c.if-first.false at c.in-Err.ensures) (runs_out (rw c.if-second.true at c.in-Err-find_ref.ensures))) }

pub returns : goal.returns
returns g c = rw c.refused_twice.ensures record { performs = λ more. turns (rw c.if-first.false at c.in-Err.ensures) (turns (rw c.if-second.false at c.in-Err-find_ref.ensures) at_leaf) }
