use Rattle.parse_options.specs.Names.{Begins}
use Rattle.parse_options.proofs.Places.{Tells, Below}
use Rattle.parse_options.proofs.named.only_begun.Given as goal

-- what was found among the options before this one
abbrev pub invariant-loop-place : goal.invariant-loop-place
invariant-loop-place g l = Tells (Below (λ k f. Begins l.choices l.name k f) l.place) l.found
