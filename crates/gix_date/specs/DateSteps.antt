-- Steps of which each may be refused.
use Rattle.std.specs.Prelude.{Result, Ok, Err}

-- What a next step makes of a value, or the refusal of the step before it.
abbrev pub result_and_then : {T U E : Type 0} → Result T E → (T → Result U E) → Result U E
result_and_then (Ok x) step = step x
result_and_then (Err e) step = Err e
