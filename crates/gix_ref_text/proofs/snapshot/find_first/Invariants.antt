use Rattle.std.proofs.Common.{◌≡◌, drop, None}
use Rattle.gix_ref_text.specs.Snapshot.{places_say}
use Rattle.gix_ref_text.proofs.snapshot.find_first.Given as goal

abbrev pub invariant-loop-place : goal.invariant-loop-place
invariant-loop-place l = places_say l.bytes l.places l.name None ≡ places_say l.bytes (drop l.place-index l.places) l.name None
