use Rattle.gix_commitgraph.proofs.Joins.{joined-acyclic, joined-never_rise}
use Rattle.gix_commitgraph.proofs.commit_graph.joined.Joined.premises.Goals as goal

pub returns-in-Some-clause-acyclic : goal.returns-in-Some-clause-acyclic
returns-in-Some-clause-acyclic g c = rw c.in-Some.is (joined-acyclic _ (g.S.Find.history c.args.self.now.newer) c.premises.ensures.levelled)

pub returns-in-Some-clause-never_rise : goal.returns-in-Some-clause-never_rise
returns-in-Some-clause-never_rise g c = rw c.in-Some.is (joined-never_rise _ (g.S.Find.history c.args.self.now.newer) c.premises.ensures.levelled)
