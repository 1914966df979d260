use Rattle.std.proofs.Common.{sym}
use Rattle.gix_commitgraph.proofs.History.{history-length}
use Rattle.gix_commitgraph.proofs.commit_graph.file.CommitGraph.len.Goals as goal

pub returns : goal.returns
returns g c = rw (← c.self.view_is) (sym (history-length (g.B.AsSlice.items c.self.inside.bytes) c.self.inside.layout c.self.invariant.0))
