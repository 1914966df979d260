use Rattle.gix_c.proofs.revisions.gix_history_list.Given as goal

abbrev pub ghosts-answer : goal.ghosts-answer
ghosts-answer g a = record { beyond = g.beyond }
