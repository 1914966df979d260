use Rattle.std.proofs.Common.{◌≤◌, length}
use Rattle.gix_files.specs.Known.{IsPart}
use Rattle.gix_files.proofs.whole.fill.Given as goal

abbrev pub invariant-loop : goal.invariant-loop
invariant-loop g l = record {
  part : g.O.Opened.keeps → IsPart (g.O.Opened.content l.fn.file) 0 l.bytes.items;
  steps : l.counter ≤ length l.bytes.items;
}
