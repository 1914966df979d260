use Rattle.std.proofs.Common.{◌≡◌, ℕ, ◌++◌, ◌<◌, None}
use Rattle.gix_base.specs.declared.hash.ObjectId.{ObjectId}
use Rattle.gix_revwalk.specs.History.{entry_at}
use Rattle.gix_ids.specs.TableForm.{id_of}
use Rattle.gix_ids.specs.TableIds.{rows_from}
use Rattle.gix_commitgraph.specs.ChainCommits.{entry_in}
use Rattle.gix_commitgraph.specs.NewerCommits.{in_file}
use Rattle.gix_commitgraph.proofs.commit_graph.layer.insert_rows.Given as goal

abbrev pub invariant-loop-i : goal.invariant-loop-i
invariant-loop-i g l = record {
  file : l.commits.file ≡ l.fn.commits.file;
  put : (q : ObjectId) → entry_at (in_file l.commits.file ++ l.commits.newer) q
      ≡ entry_at ((in_file l.fn.commits.file ++ l.fn.commits.newer) ++ rows_from l.bytes l.l.table (entry_in l.below l.bytes l.l) 0 l.i) q;
  fresh : (i : ℕ) → i < l.i → entry_at ((in_file l.fn.commits.file ++ l.fn.commits.newer) ++ rows_from l.bytes l.l.table (entry_in l.below l.bytes l.l) 0 i) (id_of l.bytes l.l.table i) ≡ None;
}
