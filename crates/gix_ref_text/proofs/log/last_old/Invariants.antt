use Rattle.std.proofs.Common.{◌≡◌, ◌+◌, length}
use Rattle.gix_ref_text.specs.Changes.{last_old}
use Rattle.gix_ref_text.proofs.log.last_old.Given as goal

abbrev pub invariant-loop : goal.invariant-loop
invariant-loop g l = (last_old l.entries ≡ last_old l.rest) × (length l.rest + l.counter ≡ length l.entries)
