use Rattle.gix_c.proofs.counts.gix_history_count.Given as goal

abbrev pub ghosts-answer : goal.ghosts-answer
ghosts-answer g a = record { beyond = g.beyond }
