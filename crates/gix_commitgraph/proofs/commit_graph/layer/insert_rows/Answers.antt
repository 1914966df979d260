use Rattle.std.proofs.Common.{◌++◌, ◌∙◌, below_more, sym}
use Rattle.gix_ids.specs.TableForm.{id_of}
use Rattle.gix_commitgraph.specs.ChainCommits.{entry_in}
use Rattle.gix_commitgraph.specs.NewerCommits.{in_file}
use Rattle.gix_commitgraph.proofs.Layers.{commit-more}
use Rattle.gix_commitgraph.proofs.commit_graph.layer.insert_rows.Goals as goal

pub loop-i-preserved : goal.loop-i-preserved
loop-i-preserved g c =
    let was = c.loop-i.invariant in
    let is = c.in_ok-insert_row.ensures in
    record {
      file = is.file ∙ was.file;
      put = commit-more c.args.bytes.now c.args.l.table (entry_in c.args.below.now c.args.bytes.now c.args.l) (in_file c.args.commits.now.file ++ c.args.commits.now.newer)
          (in_file c.loop-i.commits.file ++ c.loop-i.commits.newer) (in_file c.insert_row.new.commits.file ++ c.insert_row.new.commits.newer) c.loop-i.i was.put is.new is.put;
      fresh = below_more _ _ was.fresh (sym (was.put (id_of c.args.bytes.now c.args.l.table c.loop-i.i)) ∙ is.new);
    }
