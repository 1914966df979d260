use Rattle.std.proofs.Common.{◌≤◌, length, take}
use Rattle.gix_files.specs.Known.{IsPart}
use Rattle.gix_graph_rows.proofs.source.Source.fill.Given as goal

abbrev pub invariant-loop : goal.invariant-loop
invariant-loop g l = (l.done ≤ length l.buf) × (g.O.Opened.keeps → IsPart (g.O.Opened.content l.fn.self.file) l.fn.at (take l.done l.buf))
