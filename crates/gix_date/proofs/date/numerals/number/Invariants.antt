use Rattle.std.proofs.Common.{◌≡◌, ◌<◌, ◌^◌, length}
use Rattle.gix_date.specs.Numerals.{number_after}
use Rattle.gix_date.proofs.date.numerals.number.Given as goal

abbrev pub invariant-loop-rest : goal.invariant-loop-rest
invariant-loop-rest l = (number_after l.number l.rest ≡ number_after 0 l.digits) × (l.number < 2 ^ 64)

abbrev pub decreases-loop-rest : goal.decreases-loop-rest
decreases-loop-rest l = length l.rest
