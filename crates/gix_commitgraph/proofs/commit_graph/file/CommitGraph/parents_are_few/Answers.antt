use Rattle.gix_commitgraph.proofs.Few.{few-parents, few-bytes}
use Rattle.gix_commitgraph.proofs.commit_graph.file.CommitGraph.parents_are_few.Goals as goal

pub returns-clause-entries : goal.returns-clause-entries
returns-clause-entries g c = rw (← c.self.view_is) (few-parents (g.B.AsSlice.items c.self.inside.bytes) c.self.inside.layout c.self.invariant.0 c.self.invariant.1)

pub returns-clause-bytes : goal.returns-clause-bytes
returns-clause-bytes g c = rw (← c.self.view_is) (few-bytes (g.B.AsSlice.items c.self.inside.bytes) c.self.inside.layout c.self.invariant.0 c.self.invariant.1)
