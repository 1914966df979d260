-- Counts of links, which lead from a child to a parent.
use Rattle.std.specs.Prelude.{ℕ, zero, suc, ◌+◌, ◌==◌, if◌then◌else◌, List, [], ◌∷◌}
use Rattle.gix_order.specs.Orders.{Listed, has}

-- How often p is in the list.
abbrev pub times_in : List ℕ → ℕ → ℕ
times_in [] p = 0
times_in (x ∷ xs) p = (if x == p then 1 else 0) + times_in xs p

-- The sum of f over the first n places that are not among `shown`.
abbrev pub sum_over : ℕ → List ℕ → (ℕ → ℕ) → ℕ
sum_over zero shown f = 0
sum_over (suc n) shown f = sum_over n shown f + (if has shown n then 0 else f n)

-- The number of open links to p: those from commits of the list that were not shown.
abbrev pub open_links : Listed → List ℕ → ℕ → ℕ
open_links l shown p = sum_over l.count shown (λ c. times_in (l.parents c) p)
