use Rattle.std.proofs.Common.{◌≡◌, ◌∙◌, ap, sym, Some, true}
use Rattle.gix_revwalk.specs.History.{same_id}
use Rattle.gix_revwalk.specs.Pasts.{kept_ids}
use Rattle.gix_revwalk.proofs.Ids.{same_id-true}
use Rattle.gix_revwalk.proofs.Places.{place-once}
use Rattle.gix_revwalk.proofs.PastSteps.{id-at}
use Rattle.gix_revwalk.proofs.past.Past.is_spot.Goals as goal

pub returns-in-Some : goal.returns-in-Some
returns-in-Some g c t =
    let es = c.self.inside.memories.entries in
    let known = c.in-Some.known.now in
    let same : same_id known c.args.id.now ≡ true = sym c.is_same.ensures ∙ t in
    rw (← c.self.view_is) (place-once (kept_ids es) c.self.invariant.once c.args.guess c.args.id.now
    (id-at es c.args.guess (known, c.in-Some.field-0-1.now) (sym c.in-Some.ensures.entry) ∙ ap Some (same_id-true known c.args.id.now same)))
