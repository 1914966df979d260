use Rattle.std.proofs.Common.{◌≡◌, ◌-◌}
use Rattle.gix_commitgraph.specs.FileChunks.{row_from}
use Rattle.gix_graph_rows.proofs.front.find_entry.Given as goal

abbrev pub invariant-loop-i : goal.invariant-loop-i
invariant-loop-i l = row_from l.bytes l.tag l.i (l.entries - l.i) ≡ row_from l.bytes l.tag 0 l.entries
