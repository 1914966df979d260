use Rattle.std.proofs.Common.{◌≡◌, length}
use Rattle.gix_date.specs.Ago.{ago_of}
use Rattle.gix_date.specs.AgoSteps.{ago_from}
use Rattle.gix_date.specs.DateWords.{words_of}
use Rattle.gix_date.proofs.date.ago.ago_of.Given as goal

abbrev pub invariant-loop-after : goal.invariant-loop-after
invariant-loop-after l = ago_from l.sum (words_of l.rest) ≡ ago_of l.text

abbrev pub decreases-loop-after : goal.decreases-loop-after
decreases-loop-after l = length l.rest
