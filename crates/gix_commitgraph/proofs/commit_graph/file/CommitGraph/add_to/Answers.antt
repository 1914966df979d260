use Rattle.std.proofs.Common.{List, ℕ, ◌++◌, ap, ◌∙◌}
use Rattle.gix_revwalk.specs.History.{History}
use Rattle.gix_ids.specs.TableIds.{rows_in}
use Rattle.gix_commitgraph.specs.ChainCommits.{ids_of}
use Rattle.gix_commitgraph.specs.ChainFormat.{hash_of}
use Rattle.gix_commitgraph.specs.FileCommits.{entry_of_row}
use Rattle.gix_commitgraph.proofs.History.{history-is}
use Rattle.gix_commitgraph.proofs.commit_graph.file.CommitGraph.add_to.Goals as goal

pub returns-clause-ids : goal.returns-clause-ids
returns-clause-ids g c =
    let s = g.B.AsSlice.items c.self.inside.bytes in
    let l = c.self.inside.layout in
    rw (← c.self.view_is) (c.in_ok-add_ids.ensures (entry_of_row s l) ∙ ap (λ (b : List ℕ). c.args.ids.now.items ++ ids_of (rows_in b l.table (entry_of_row s l))) c.as_slice-bytes.ensures
    ∙ ap (λ (r : History). c.args.ids.now.items ++ ids_of r) (history-is s l c.self.invariant.0))

pub returns-clause-hashes : goal.returns-clause-hashes
returns-clause-hashes g c =
    rw (← c.self.view_is) (c.in_ok-add_hash.ensures ∙ ap (λ (b : List ℕ). c.args.hashes.now.items ++ hash_of b) c.as_slice-bytes.ensures)
