use Rattle.gix_c.proofs.bases.gix_history_reaches.Given as goal

abbrev pub ghosts-answer : goal.ghosts-answer
ghosts-answer g a = record { beyond = g.beyond }
