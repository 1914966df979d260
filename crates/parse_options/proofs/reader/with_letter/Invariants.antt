use Rattle.std.proofs.Common.{ℕ, ◌<◌}
use Rattle.parse_options.specs.Line.{IsShort}
use Rattle.parse_options.specs.Names.{At}
use Rattle.parse_options.proofs.reader.with_letter.Given as goal

-- no option before this one has the letter
abbrev pub invariant-loop-place : goal.invariant-loop-place
invariant-loop-place g l = (other : ℕ) → other < l.place → At l.choices other (λ x. IsShort x l.letter) → ⊥
