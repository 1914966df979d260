use Rattle.gix_c.proofs.revisions.gix_history_rev_parse.Given as goal

abbrev pub ghosts-read : goal.ghosts-read
ghosts-read g a = record { beyond = g.beyond }
