use Rattle.std.proofs.Common.{rules}
use Rattle.gix_graph_rows.specs.ChainRows.{file_at}
use Rattle.gix_graph_rows.specs.FilesRead.{files_of}
use Rattle.gix_graph_rows.proofs.SameFiles.{files_of_set, row_read}
use Rattle.gix_graph_rows.proofs.NamedParents.{commit_said}
use Rattle.gix_graph_rows.proofs.commit.commit_at.Goals as goal

pub returns-clause-value : goal.returns-clause-value
returns-clause-value g c = λ h here.
    let set = files_of_set c.args.layers.now c.args.place.layer c.index-layers-place.result c.row.new.self (search rules) c.row.ensures.same.0 c.row.ensures.same.1 in
    commit_said (files_of c.args.layers.now) (file_at (files_of c.args.layers.now) c.args.place.layer) c.args.place.row c.in_ok-row.row.bytes _
    (row_read c.args.layers.now c.args.place.layer c.index-layers-place.result (search rules) c.args.place.row c.in_ok-row.row.bytes (c.in_ok-row.ensures.value h) here)
    (rw (set, c.child-child.ensures) at (c.in_ok-add_parents.ensures.value h)) (search rules) (search rules)
