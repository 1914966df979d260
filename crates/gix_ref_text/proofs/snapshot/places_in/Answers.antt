use Rattle.gix_ref_text.proofs.Places.{read-none, read-more}
use Rattle.gix_ref_text.proofs.snapshot.places_in.Goals as goal

pub loop-init : goal.loop-init
loop-init g c = read-none _ _ _ _ c.in-Some.ensures c.new-places.ensures.items

pub loop-preserved : goal.loop-preserved
loop-preserved g c =
    read-more _ _ _ _ _ _ _ _ _ _ c.loop.invariant c.in-Some-first_record.ensures c.in_ok-push.ensures.items c.saturating_sub.ensures
    c.still_sorted-is_sorted.ensures
