use Rattle.std.proofs.Common.{◌≡◌, ◌+◌, length}
use Rattle.gix_date.specs.DateWords.{word_length}
use Rattle.gix_date.proofs.date.words.word_len.Given as goal

abbrev pub invariant-loop-rest : goal.invariant-loop-rest
invariant-loop-rest l = (l.len + word_length l.rest ≡ word_length l.text) × (l.len + length l.rest ≡ length l.text)

abbrev pub decreases-loop-rest : goal.decreases-loop-rest
decreases-loop-rest l = length l.rest
