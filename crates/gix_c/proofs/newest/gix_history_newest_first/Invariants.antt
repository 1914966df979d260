use Rattle.gix_c.proofs.newest.gix_history_newest_first.Given as goal

abbrev pub ghosts-answer : goal.ghosts-answer
ghosts-answer g a = record { beyond = g.beyond }
