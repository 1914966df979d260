use Rattle.std.proofs.Common.{◌≤◌, ◌<◌, ℕ}
use Rattle.gix_c_core.specs.Abbreviated.{IsAlone}
use Rattle.gix_c_core.proofs.abbreviate.shortest.Given as goal

abbrev pub invariant-loop-len : goal.invariant-loop-len
invariant-loop-len l = (l.fn.least ≤ l.len) × ((m : ℕ) → l.fn.least ≤ m → m < l.len → ¬ IsAlone l.fn.ids.keys l.fn.id m)
