use Rattle.std.proofs.Common.{◌≡◌, refl, sym, ap, subst, ◌∷◌, [], cond, rules}
use Rattle.std.specs.Option.{unwrap_or}
use Rattle.std.specs.List.Sorted.{IsPermutation}
use Rattle.gix_base.specs.declared.hash.ObjectId.{ObjectId}
use Rattle.gix_revwalk.specs.History.{Has, same_id}
use Rattle.gix_revwalk.specs.Number.{place_in}
use Rattle.gix_revwalk.proofs.Growth.{more-taken}
use Rattle.gix_merge_base.specs.Marks.{marks_of, joined}
use Rattle.gix_merge_base.specs.PaintQueue.{marks_at, queued_ids, no_mark}
use Rattle.gix_merge_base.proofs.Fronts.{keeps_grown, keeps_then, right_kept, same_none, meets_held, meets_took}
use Rattle.gix_merge_base.proofs.Known.{ids-grown-queue}
use Rattle.gix_merge_base.proofs.QueueKeys.{number-id}
use Rattle.gix_merge_base.proofs.PaintBegins.{begins_one, begins_grown}
use Rattle.gix_merge_base.proofs.merge_base.painting.begin.Goals as goal

pub returns-in-Ok-clause-begins : goal.returns-in-Ok-clause-begins
returns-in-Ok-clause-begins g c =
    let h = g.S.Find.history c.args.graph.now.source in
    let old = c.args.graph.now in
    let mid = c.take.new.graph in
    let new = c.enter.new.graph in
    let queue = c.args.front.now.queue in
    let after = queued_ids new c.enter.new.self.queue in
    let at = rw c.in-Some.is at c.in_ok-number.ensures.number in
    let had = rw c.in-Some.is at c.in_ok-number.ensures.has in
    let number = number-id mid c.args.id (place_in c.in-Some.number) at in
    let has : Has h c.args.id = sym had in
    let entered = c.in-Ok.ensures.enters in
    begins_grown h (marks_of c.args.marks) c.args.id (marks_at old) (marks_at mid) (marks_at new) (queued_ids old queue) (queued_ids mid queue) after
    (λ d. ap (λ o. marks_of (unwrap_or o no_mark).marks) (c.in_ok-number.ensures.marks d))
    (ids-grown-queue old mid c.in_ok-number.ensures.grows queue c.requires.queued.held)
    (begins_one h (marks_of c.args.marks) c.args.id (marks_at mid) (marks_at new) (queued_ids mid queue) after has
    (subst (λ i. (d : ObjectId) → marks_at new d ≡ cond (same_id i d) (joined (marks_of c.args.marks) (marks_at mid d)) (marks_at mid d)) number.1 entered.marks)
    (subst (λ i. IsPermutation (i ∷ queued_ids mid queue) after) number.1 entered.queue))

pub mark_of-old-requires : goal.mark_of-old-requires
mark_of-old-requires g c = (number-id c.take.new.graph c.args.id (place_in c.in-Some.number) (rw c.in-Some.is at c.in_ok-number.ensures.number)).0

pub enter-requires-clause-number : goal.enter-requires-clause-number
enter-requires-clause-number g c = (number-id c.take.new.graph c.args.id (place_in c.in-Some.number) (rw c.in-Some.is at c.in_ok-number.ensures.number)).0

pub returns-in_default-clause-right : goal.returns-in_default-clause-right
returns-in_default-clause-right g c =
    let h = g.S.Find.history c.args.graph.now.source in
    let front = c.args.front.now in
    right_kept h (marks_of c.args.marks) c.args.graph.now front c.take.new.graph front
    (keeps_grown h (marks_of c.args.marks) c.args.graph.now c.take.new.graph front c.in_ok-number.ensures.grows c.in_ok-number.ensures.marks c.requires.queued.held) c.requires

pub returns-in-Ok-clause-right : goal.returns-in-Ok-clause-right
returns-in-Ok-clause-right g c =
    let h = g.S.Find.history c.args.graph.now.source in
    let w = marks_of c.args.marks in
    let old = c.args.graph.now in
    let mid = c.take.new.graph in
    let front = c.args.front.now in
    let keeps = rw c.in_ok-number.ensures.history at c.in-Ok.ensures.keeps in
    right_kept h w old front c.enter.new.graph c.enter.new.self
    (keeps_then h w old front mid front c.enter.new.graph c.enter.new.self (keeps_grown h w old mid front c.in_ok-number.ensures.grows c.in_ok-number.ensures.marks c.requires.queued.held) keeps) c.requires

pub returns-in_err-number-clause-meets : goal.returns-in_err-number-clause-meets
returns-in_err-number-clause-meets g c = meets_held (c.args.id ∷ []) c.args.graph.now c.take.new.graph _ c.in_err-number.ensures.refused.0 c.in_err-number.ensures.history (search rules)

pub returns-in_default-clause-meets : goal.returns-in_default-clause-meets
returns-in_default-clause-meets g c =
    let h = g.S.Find.history c.args.graph.now.source in
    let old = c.args.graph.now in
    let mid = c.take.new.graph in
    meets_took (c.args.id ∷ []) old mid mid _ refl c.in_ok-number.ensures.grows (more-taken h old mid c.args.id _ c.in_ok-number.ensures.taken) c.in_ok-number.ensures.history c.in_ok-number.ensures.count (same_none mid)

pub returns-in-Ok-clause-meets : goal.returns-in-Ok-clause-meets
returns-in-Ok-clause-meets g c =
    let h = g.S.Find.history c.args.graph.now.source in
    let old = c.args.graph.now in
    let mid = c.take.new.graph in
    meets_took (c.args.id ∷ []) old mid c.enter.new.graph _ refl c.in_ok-number.ensures.grows (more-taken h old mid c.args.id _ c.in_ok-number.ensures.taken) c.in_ok-number.ensures.history c.in_ok-number.ensures.count c.enter.ensures.same

pub returns-in-Err-clause-meets : goal.returns-in-Err-clause-meets
returns-in-Err-clause-meets g c =
    let h = g.S.Find.history c.args.graph.now.source in
    let old = c.args.graph.now in
    let mid = c.take.new.graph in
    meets_took (c.args.id ∷ []) old mid c.enter.new.graph _ refl c.in_ok-number.ensures.grows (more-taken h old mid c.args.id _ c.in_ok-number.ensures.taken) c.in_ok-number.ensures.history c.in_ok-number.ensures.count c.enter.ensures.same
