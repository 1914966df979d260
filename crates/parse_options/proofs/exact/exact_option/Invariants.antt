use Rattle.std.proofs.Common.{ℕ, ◌<◌}
use Rattle.parse_options.specs.Exact.{ReadsAt}
use Rattle.parse_options.proofs.exact.exact_option.Given as goal

-- the word is no option before this one
abbrev pub invariant-loop-place : goal.invariant-loop-place
invariant-loop-place g l = (other : ℕ) → other < l.place → ReadsAt l.options other l.word → ⊥
