use Rattle.std.proofs.Common.{ℕ, Bool, ◌<◌}
use Rattle.parse_options.specs.Names.{HasName}
use Rattle.parse_options.proofs.named.whole.Given as goal

-- no option before this one has the name
abbrev pub invariant-loop-place : goal.invariant-loop-place
invariant-loop-place g l = (other : ℕ) → other < l.place → (form : Bool) → HasName l.choices l.name other form → ⊥
