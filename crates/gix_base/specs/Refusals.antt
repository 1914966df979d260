-- How many refusals there are, for the proof that letting them go ends.
use Rattle.std.specs.Prelude.{ℕ, ◌+◌, List, [], ◌∷◌, map}
use Rattle.gix_base.specs.declared.error.Exn.{Exn}
use Rattle.gix_base.specs.declared.error.Exn.TheOpen.{Exn-F}
use Rattle.gix_base.specs.declared.error.Exn.TheFolds.{fold-Exn}

-- The sum of a list.
abbrev pub sum_of : List ℕ → ℕ
sum_of [] = 0
sum_of (n ∷ ns) = n + sum_of ns

-- One more than the sum of the list, which has a number for each refusal that led to this one.
abbrev pub refusal_step : Exn-F ℕ → ℕ
refusal_step exn = 1 + sum_of exn.causes.items

-- The number of refusals in a refusal: itself and all that led to it.
abbrev pub refusals_in : Exn → ℕ
refusals_in = fold-Exn ℕ refusal_step

-- The number of refusals in a list of refusals.
abbrev pub refusals_among : List Exn → ℕ
refusals_among exns = sum_of (map refusals_in exns)
