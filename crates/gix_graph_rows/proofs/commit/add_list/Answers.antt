use Rattle.std.proofs.Common.{rules, arith, ◌∙◌}
use Rattle.gix_graph_rows.specs.ChainRows.{file_at, id_there}
use Rattle.gix_graph_rows.specs.FilesRead.{files_of}
use Rattle.gix_graph_rows.proofs.SameFiles.{files_of_set, edge_read, edge_within}
use Rattle.gix_graph_rows.proofs.NamedParents.{edge_more, edge_last}
use Rattle.gix_graph_rows.proofs.commit.add_list.Goals as goal

pub returns-then-edge-ge-EDGE_BIT-clause-value : goal.returns-then-edge-ge-EDGE_BIT-clause-value
returns-then-edge-ge-EDGE_BIT-clause-value g c = λ h.
    let files = c.loop-place.invariant.files in
    let set = files_of_set c.loop-place.layers c.args.child.layer c.index-layers-child.result c.edge.new.self (search rules) c.edge.ensures.same.0 c.edge.ensures.same.1 ∙ files in
    let word = edge_read c.loop-place.layers (files_of c.args.layers.now) c.args.child.layer c.index-layers-child.result (search rules) files c.in_ok-edge.edge c.loop-place.place (c.in_ok-edge.ensures.value h) in
    let within = edge_within c.loop-place.layers (files_of c.args.layers.now) c.args.child.layer c.index-layers-child.result (search rules) files c.loop-place.place c.in_ok-edge.ensures.within in
    edge_last (id_there (files_of c.args.layers.now)) (file_at (files_of c.args.layers.now) c.args.child.layer) c.loop-place.place (file_at (files_of c.args.layers.now) c.args.child.layer).layout.edge_count c.in_ok-edge.edge c.loop-place.ids.items c.add_parent.new.ids.items
    word c.if-edge-ge-EDGE_BIT.true (search rules) within (rw set at (c.in_ok-add_parent.ensures.value h))
    ∙ c.loop-place.invariant.value h

pub loop-place-preserved : goal.loop-place-preserved
loop-place-preserved g c =
    let files = c.loop-place.invariant.files in
    let set = files_of_set c.loop-place.layers c.args.child.layer c.index-layers-child.result c.edge.new.self (search rules) c.edge.ensures.same.0 c.edge.ensures.same.1 ∙ files in
    record {
      added = omega (arith, c.in_ok-add_parent.ensures.added, c.loop-place.invariant.added);
      same = search rules;
      files = c.add_parent.ensures.files ∙ set;
      kept = λ h old. rw set at (c.add_parent.ensures.kept h) (c.loop-place.invariant.kept h old);
      value = λ h.
          let word = edge_read c.loop-place.layers (files_of c.args.layers.now) c.args.child.layer c.index-layers-child.result (search rules) files c.in_ok-edge.edge c.loop-place.place (c.in_ok-edge.ensures.value h) in
          let within = edge_within c.loop-place.layers (files_of c.args.layers.now) c.args.child.layer c.index-layers-child.result (search rules) files c.loop-place.place c.in_ok-edge.ensures.within in
          edge_more (id_there (files_of c.args.layers.now)) (file_at (files_of c.args.layers.now) c.args.child.layer) c.loop-place.place (file_at (files_of c.args.layers.now) c.args.child.layer).layout.edge_count c.in_ok-edge.edge c.loop-place.ids.items c.add_parent.new.ids.items
          word c.if-edge-ge-EDGE_BIT.false within (rw set at (c.in_ok-add_parent.ensures.value h))
          ∙ c.loop-place.invariant.value h;
    }
