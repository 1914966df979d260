use Rattle.std.proofs.Common.{◌≡◌, length}
use Rattle.gix_graph_rows.specs.FilesRead.{files_of}
use Rattle.gix_graph_rows.proofs.place.search.Given as goal

abbrev pub invariant-loop-k : goal.invariant-loop-k
invariant-loop-k g l = (length l.layers ≡ length l.fn.layers) × (files_of l.layers ≡ files_of l.fn.layers)
