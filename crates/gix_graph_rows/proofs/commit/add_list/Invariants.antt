use Rattle.std.proofs.Common.{◌≡◌, ◌≤◌, ◌-◌, ◌++◌, length, map}
use Rattle.gix_commitgraph.specs.FileCommits.{edge_list}
use Rattle.gix_graph_rows.specs.ChainRows.{file_at, id_there, AreHints}
use Rattle.gix_graph_rows.specs.FilesRead.{files_of}
use Rattle.gix_graph_rows.proofs.commit.add_list.Given as goal

abbrev pub invariant-loop-place : goal.invariant-loop-place
invariant-loop-place g l =
    let f = file_at (files_of l.fn.layers) l.fn.child.layer in
    record {
      added : length l.fn.ids.items ≤ length l.ids.items;
      same : length l.layers ≡ length l.fn.layers;
      files : files_of l.layers ≡ files_of l.fn.layers;
      kept : g.O.Opened.keeps → AreHints (files_of l.fn.layers) l.fn.hints.hints.items → AreHints (files_of l.fn.layers) l.hints.hints.items;
      value : g.O.Opened.keeps → l.ids.items ++ map (id_there (files_of l.fn.layers)) (edge_list f.bytes f.layout l.place (f.layout.edge_count - l.place))
          ≡ l.fn.ids.items ++ map (id_there (files_of l.fn.layers)) (edge_list f.bytes f.layout l.fn.start (f.layout.edge_count - l.fn.start));
    }
