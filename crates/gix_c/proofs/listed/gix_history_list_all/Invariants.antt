use Rattle.gix_c.proofs.listed.gix_history_list_all.Given as goal

abbrev pub ghosts-answer : goal.ghosts-answer
ghosts-answer g a = record { beyond = g.beyond }
