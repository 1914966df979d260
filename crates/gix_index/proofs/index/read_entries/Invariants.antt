use Rattle.std.proofs.Common.{◌≡◌, length}
use Rattle.gix_index.specs.IndexForm.{AreEntries}
use Rattle.gix_index.proofs.index.read_entries.Given as goal

-- The entries that were read are those of the bytes before the rest.
abbrev pub invariant-loop-number : goal.invariant-loop-number
invariant-loop-number g l = record {
  entries : AreEntries l.version l.bytes l.entries.items l.rest;
  count : length l.entries.items ≡ l.number;
}
