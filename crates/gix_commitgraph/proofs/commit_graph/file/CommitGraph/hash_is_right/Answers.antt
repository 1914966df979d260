use Rattle.std.proofs.Common.{◌↔◌, List, ℕ, IsTrue, subst}
use Rattle.gix_commitgraph.specs.FileHash.{HashIsRight}
use Rattle.gix_commitgraph.proofs.commit_graph.file.CommitGraph.hash_is_right.Goals as goal

pub returns : goal.returns
returns g c =
    let P : List ℕ → Type 0 = λ s. IsTrue c.hash_is_right.result ↔ HashIsRight s in
    rw (← c.self.view_is) (subst P c.as_slice.ensures c.hash_is_right.ensures)
