use Rattle.std.proofs.Common.{◌≡◌, ◌+◌, length}
use Rattle.gix_ref_text.specs.Loose.{trimmed_start}
use Rattle.gix_ref_text.proofs.loose.trimmed_start.Given as goal

abbrev pub invariant-loop : goal.invariant-loop
invariant-loop l = (trimmed_start l.bytes ≡ trimmed_start l.rest) × (length l.rest + l.counter ≡ length l.bytes)
