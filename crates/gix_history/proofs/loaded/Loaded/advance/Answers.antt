use Rattle.gix_history.proofs.loaded.Loaded.advance.Goals as goal

pub returns-in-Some-clause-path : goal.returns-in-Some-clause-path
returns-in-Some-clause-path g c = c.descend.ensures c.args.self.now c.settle.ensures.pending c.requires.path
