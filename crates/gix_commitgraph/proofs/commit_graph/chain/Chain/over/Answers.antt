use Rattle.std.proofs.Common.{ℕ, List, ◌++◌, ap, ◌∙◌}
use Rattle.gix_base.specs.declared.hash.ObjectId.{ObjectId}
use Rattle.gix_revwalk.specs.History.{History, entry_at}
use Rattle.gix_commitgraph.specs.ChainCommits.{ids_of}
use Rattle.gix_commitgraph.specs.ChainFormat.{hash_of}
use Rattle.gix_commitgraph.specs.FileCommits.{history_in}
use Rattle.gix_commitgraph.specs.FileIds.{ids_in}
use Rattle.gix_commitgraph.proofs.commit_graph.chain.Chain.over.Goals as goal

pub returns : goal.returns
returns g c = record {
  commits = λ q. ap (λ (h : History). entry_at h q) c.with_seed.ensures.commits;
  same_ids =
      c.in_ok-add_to.ensures.ids ∙ ap (λ (xs : List ObjectId). xs ++ ids_in c.graph.result.now) c.new-ids.ensures.items
      ∙ ap (λ (s : List ℕ). ids_of (history_in s)) c.graph.ensures;
  same_hashes =
      c.in_ok-add_to.ensures.hashes ∙ ap (λ (xs : List ℕ). xs ++ hash_of c.graph.result.now) c.new-hashes.ensures.items
      ∙ ap hash_of c.graph.ensures;
}
