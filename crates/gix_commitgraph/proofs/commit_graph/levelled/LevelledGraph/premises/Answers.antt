use Rattle.gix_commitgraph.proofs.Falling.{fall-acyclic, fall-never_rise}
use Rattle.gix_commitgraph.proofs.commit_graph.levelled.LevelledGraph.premises.Goals as goal

pub returns-clause-levelled : goal.returns-clause-levelled
returns-clause-levelled g c = rw (← c.self.view_is) c.self.invariant

pub returns-clause-acyclic : goal.returns-clause-acyclic
returns-clause-acyclic g c = fall-acyclic _ (returns-clause-levelled g c).fall

pub returns-clause-never_rise : goal.returns-clause-never_rise
returns-clause-never_rise g c = fall-never_rise _ (returns-clause-levelled g c).fall
