use Rattle.std.proofs.Common.{◌≡◌, ◌≤◌, true, length}
use Rattle.gix_date.specs.DateWords.{words_from}
use Rattle.gix_date.proofs.date.words.without_gap.Given as goal

abbrev pub invariant-loop-rest : goal.invariant-loop-rest
invariant-loop-rest l = (words_from true l.rest ≡ words_from true l.text) × (length l.rest ≤ length l.text)

abbrev pub decreases-loop-rest : goal.decreases-loop-rest
decreases-loop-rest l = length l.rest
