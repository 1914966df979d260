use Rattle.std.proofs.Common.{◌≡◌, ap, sym, subst, refl, is_some, IsTrue, rules}
use Rattle.std.specs.List.{filter}
use Rattle.std.specs.Option.{unwrap_or}
use Rattle.gix_revwalk.specs.History.{entry_at, parents_in, is_one_of}
use Rattle.gix_revwalk.specs.Number.{place_in}
use Rattle.gix_merge_base.specs.Front.{HandsOn}
use Rattle.gix_merge_base.specs.Marks.{marks_of}
use Rattle.gix_merge_base.specs.PaintQueue.{marks_at, queued_ids, id_at, ids_at, no_mark}
use Rattle.gix_merge_base.proofs.Fronts.{keeps_grown, keeps_then, meets_took}
use Rattle.gix_merge_base.proofs.Known.{one_of-filter, hands_known, hands_first, numbers-ids, ids-grown-queue}
use Rattle.gix_merge_base.proofs.Listed.{listed-grown}
use Rattle.gix_merge_base.proofs.Numbered.{named-id}
use Rattle.gix_merge_base.proofs.QueueKeys.{kept-grown}
use Rattle.gix_merge_base.proofs.merge_base.hand.Walk.hand_parents.Goals as goal

pub hand_all-requires : goal.hand_all-requires
hand_all-requires g c =
    let row = c.in_ok-known_parents.ensures.numbers (id_at c.args.graph.now (place_in c.args.number)) (named-id c.args.graph.now (place_in c.args.number) c.requires.number) in
    rw c.deref.ensures.value (numbers-ids c.known_parents.new.graph c.known_parents.new.into.items (filter (λ p. is_some (entry_at (g.S.Find.history c.args.graph.now.source) p)) (parents_in (entry_at (g.S.Find.history c.args.graph.now.source) (id_at c.args.graph.now (place_in c.args.number))))) row).0

pub returns-in-Ok-clause-hands : goal.returns-in-Ok-clause-hands
returns-in-Ok-clause-hands g c =
    let h = g.S.Find.history c.args.graph.now.source in
    let w = marks_of c.args.marks in
    let old = c.args.graph.now in
    let mid = c.known_parents.new.graph in
    let new = c.hand_all.new.graph in
    let front = c.args.self.now.front in
    let after = c.hand_all.new.self in
    let id = id_at old (place_in c.args.number) in
    let ps = parents_in (entry_at h id) in
    let row = c.in_ok-known_parents.ensures.numbers id (named-id old (place_in c.args.number) c.requires.number) in
    let known = filter (λ p. is_some (entry_at h p)) ps in
    let all = rw c.in_ok-known_parents.ensures.history at c.in-Ok.ensures.hands in
    let ids : ids_at mid c.deref.result.now ≡ known = subst (λ l. ids_at mid l ≡ known) (sym c.deref.ensures.value) (numbers-ids mid c.known_parents.new.into.items known row).1 in
    let got : HandsOn h w known mid front new after =
    subst (λ l. HandsOn h w l mid front new after) ids
    (all (λ d x. (one_of-filter (λ p. is_some (entry_at h p)) ps d (subst (λ l. IsTrue (is_one_of l d)) ids x)).1)) in
    hands_known h w ps (marks_at old) (marks_at new) (queued_ids old front.queue) (queued_ids new after.queue)
    (hands_first h w known (marks_at old) (marks_at mid) (marks_at new) (queued_ids old front.queue) (queued_ids mid front.queue) (queued_ids new after.queue)
    (λ d. ap (λ o. marks_of (unwrap_or o no_mark).marks) (c.in_ok-known_parents.ensures.marks d))
    (ids-grown-queue old mid c.in_ok-known_parents.ensures.grows front.queue c.requires.queued.held) got)

pub returns-in-Ok-clause-keeps : goal.returns-in-Ok-clause-keeps
returns-in-Ok-clause-keeps g c =
    let h = g.S.Find.history c.args.graph.now.source in
    let w = marks_of c.args.marks in
    let front = c.args.self.now.front in
    let mid = c.known_parents.new.graph in
    let keeps = rw c.in_ok-known_parents.ensures.history at c.in-Ok.ensures.keeps in
    keeps_then h w _ front mid front _ _ (keeps_grown h w c.args.graph.now mid front c.in_ok-known_parents.ensures.grows c.in_ok-known_parents.ensures.marks c.requires.queued.held) keeps

pub returns-in_err-known_parents-clause-meets : goal.returns-in_err-known_parents-clause-meets
returns-in_err-known_parents-clause-meets g c =
    let old = c.args.graph.now in
    let mid = c.known_parents.new.graph in
    record {
      more = c.known_parents.ensures.more (id_at old (place_in c.args.number)) (named-id old (place_in c.args.number) c.requires.number);
      numbers = listed-grown old mid c.known_parents.ensures.grows;
      graph = record { same_history = c.known_parents.ensures.history; count = search rules; held = kept-grown old mid c.known_parents.ensures.grows };
    }

pub returns-in-Ok-clause-meets : goal.returns-in-Ok-clause-meets
returns-in-Ok-clause-meets g c =
    let old = c.args.graph.now in
    meets_took _ old c.known_parents.new.graph c.hand_all.new.graph _ refl c.known_parents.ensures.grows (c.known_parents.ensures.more (id_at old (place_in c.args.number)) (named-id old (place_in c.args.number) c.requires.number))
    c.known_parents.ensures.history c.in_ok-known_parents.ensures.count c.hand_all.ensures.same

pub returns-in-Err-clause-meets : goal.returns-in-Err-clause-meets
returns-in-Err-clause-meets g c =
    let old = c.args.graph.now in
    meets_took _ old c.known_parents.new.graph c.hand_all.new.graph _ refl c.known_parents.ensures.grows (c.known_parents.ensures.more (id_at old (place_in c.args.number)) (named-id old (place_in c.args.number) c.requires.number))
    c.known_parents.ensures.history c.in_ok-known_parents.ensures.count c.hand_all.ensures.same
