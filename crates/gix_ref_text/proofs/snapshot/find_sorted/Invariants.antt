use Rattle.std.proofs.Common.{◌≡◌, ◌+◌, ◌≤◌, length, None}
use Rattle.gix_ref_text.specs.Snapshot.{places_say, AreSorted}
use Rattle.gix_ref_text.proofs.snapshot.find_sorted.Given as goal

abbrev pub invariant-loop : goal.invariant-loop
invariant-loop l = record {
  same : places_say l.bytes l.places l.name None ≡ places_say l.bytes l.left l.name None;
  sorted : AreSorted l.bytes l.left;
  shorter : length l.left + l.counter ≤ length l.places;
}
