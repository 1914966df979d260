use Rattle.std.proofs.Common.{ℕ, List, ◌++◌, map, drop}
use Rattle.gix_revwalk.specs.History.{History}
use Rattle.gix_commitgraph.specs.ChainSteps.{Holds}
use Rattle.gix_commitgraph.specs.NewerCommits.{in_file}
use Rattle.gix_commitgraph.proofs.Chains.{Reached}
use Rattle.gix_commitgraph.proofs.commit_graph.chain.Chain.add_all.Given as goal

abbrev pub invariant-loop-file : goal.invariant-loop-file
invariant-loop-file g l =
    (h : History) → (hashes : List ℕ)
    → Holds h hashes (in_file l.fn.self.commits.file ++ l.fn.self.commits.newer) l.fn.self.ids.items l.fn.self.hashes.items
    → Reached h hashes (map g.T.AsSlice.items l.files) (map g.T.AsSlice.items (drop l.file-index l.files)) (in_file l.self.commits.file ++ l.self.commits.newer) l.self.ids.items l.self.hashes.items
