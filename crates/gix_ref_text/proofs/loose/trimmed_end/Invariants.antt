use Rattle.std.proofs.Common.{◌≡◌, ◌+◌, length}
use Rattle.gix_ref_text.specs.Loose.{trimmed_end}
use Rattle.gix_ref_text.proofs.loose.trimmed_end.Given as goal

abbrev pub invariant-loop : goal.invariant-loop
invariant-loop l = (trimmed_end l.bytes ≡ trimmed_end l.rest) × (length l.rest + l.counter ≡ length l.bytes)
