use Rattle.gix_revwalk.proofs.graph.commit.Commit.parents.Goals as goal

pub returns : goal.returns
returns g c = c.deref.ensures.value
