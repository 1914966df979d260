-- The place that a number stands for.
use Rattle.std.specs.Prelude.{ℕ}
use Rattle.gix_revwalk.specs.declared.numbers.Number.{Number}

-- The place that the number n stands for.
abbrev pub place_in : Number → ℕ
place_in n = n.0
