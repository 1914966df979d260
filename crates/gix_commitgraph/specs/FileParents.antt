-- How many parents the commits of a file have.
use Rattle.std.specs.Prelude.{ℕ, length, sum_by}
use Rattle.gix_revwalk.specs.History.{History}

-- The number of parents of all commits of the history h. A parent of two commits counts twice.
abbrev pub parent_count : History → ℕ
parent_count h = sum_by (λ e. length e.1.parents) h
