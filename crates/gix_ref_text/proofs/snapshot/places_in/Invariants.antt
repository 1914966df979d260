use Rattle.gix_ref_text.specs.Snapshot.{IsRead}
use Rattle.gix_ref_text.proofs.snapshot.places_in.Given as goal

abbrev pub invariant-loop : goal.invariant-loop
invariant-loop g l = IsRead l.bytes l.rest l.places.items l.is_sorted l.last
