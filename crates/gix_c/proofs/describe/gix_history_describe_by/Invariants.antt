use Rattle.gix_c.proofs.describe.gix_history_describe_by.Given as goal

abbrev pub ghosts-describe_by : goal.ghosts-describe_by
ghosts-describe_by g a = record { beyond = g.beyond }
