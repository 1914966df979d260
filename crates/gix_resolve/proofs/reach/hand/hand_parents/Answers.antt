use Rattle.std.below.core.proofs.iter.Serving.{as_err}
use Rattle.std.proofs.Common.{◌≡◌, ◌∙◌, sym, ap, subst, is_some, IsTrue, rules}
use Rattle.std.specs.List.{filter}
use Rattle.std.specs.Option.{unwrap_or}
use Rattle.gix_revwalk.specs.History.{entry_at, parents_in, is_one_of, Has}
use Rattle.gix_revwalk.specs.Number.{place_in}
use Rattle.gix_merge_base.specs.Marks.{marks_of}
use Rattle.gix_resolve.specs.ReachSides.{Gives}
use Rattle.gix_resolve.proofs.ReachGives.{gives_known, gives_first}
use Rattle.gix_merge_base.specs.PaintQueue.{marks_at, queued_ids, id_at, ids_at, no_mark}
use Rattle.gix_merge_base.proofs.Known.{one_of-filter, numbers-ids, ids-grown-queue}
use Rattle.gix_merge_base.proofs.Numbered.{named-id}
use Rattle.gix_merge_base.proofs.QueueKeys.{kept-grown, kept-same, holds-after}
use Rattle.gix_resolve.specs.ReachWalk.{IsRight}
use Rattle.gix_resolve.proofs.ReachEnter.{right_grown}
use Rattle.gix_resolve.proofs.reach.hand.hand_parents.Goals as goal

pub returns-in_err-known_parents-clause-after : goal.returns-in_err-known_parents-clause-after
returns-in_err-known_parents-clause-after g c = record {
  same_history = c.known_parents.ensures.history;
  count = search rules;
  held = kept-grown c.args.graph.now c.known_parents.new.graph c.known_parents.ensures.grows;
}

pub hand_all-requires-clause-numbers : goal.hand_all-requires-clause-numbers
hand_all-requires-clause-numbers g c =
    let h = g.S.Find.history c.args.graph.now.source in
    let id = id_at c.args.graph.now (place_in c.args.number) in
    let row = c.in_ok-known_parents.ensures.numbers id (named-id c.args.graph.now (place_in c.args.number) c.requires.number) in
    rw c.deref.ensures.value (numbers-ids c.known_parents.new.graph c.known_parents.new.into.items (filter (λ p. is_some (entry_at h p)) (parents_in (entry_at h id))) row).0

pub hand_all-requires-clause-right : goal.hand_all-requires-clause-right
hand_all-requires-clause-right g c =
    subst (λ h. IsRight h c.known_parents.new.graph c.args.walk.now) (sym c.in_ok-known_parents.ensures.history)
    (right_grown (g.S.Find.history c.args.graph.now.source) c.args.graph.now c.known_parents.new.graph c.args.walk.now c.in_ok-known_parents.ensures.grows c.in_ok-known_parents.ensures.marks c.requires.right)

pub hand_all-requires-clause-has : goal.hand_all-requires-clause-has
hand_all-requires-clause-has g c d x =
    let h = g.S.Find.history c.args.graph.now.source in
    let mid = c.known_parents.new.graph in
    let id = id_at c.args.graph.now (place_in c.args.number) in
    let ps = parents_in (entry_at h id) in
    let known = filter (λ p. is_some (entry_at h p)) ps in
    let row = c.in_ok-known_parents.ensures.numbers id (named-id c.args.graph.now (place_in c.args.number) c.requires.number) in
    let ids : ids_at mid c.deref.result.now ≡ known = subst (λ l. ids_at mid l ≡ known) (sym c.deref.ensures.value) (numbers-ids mid c.known_parents.new.into.items known row).1 in
    subst (λ z. Has z d) (sym c.in_ok-known_parents.ensures.history) (one_of-filter (λ p. is_some (entry_at h p)) ps d (subst (λ l. IsTrue (is_one_of l d)) ids x)).1

pub returns-in-Ok-clause-right : goal.returns-in-Ok-clause-right
returns-in-Ok-clause-right g c = subst (λ h. IsRight h c.hand_all.new.graph c.hand_all.new.walk) c.in_ok-known_parents.ensures.history c.in-Ok.ensures.right

pub returns-in-Ok-clause-handed : goal.returns-in-Ok-clause-handed
returns-in-Ok-clause-handed g c =
    let h = g.S.Find.history c.args.graph.now.source in
    let old = c.args.graph.now in
    let mid = c.known_parents.new.graph in
    let new = c.hand_all.new.graph in
    let w = marks_of c.args.marks in
    let id = id_at old (place_in c.args.number) in
    let ps = parents_in (entry_at h id) in
    let known = filter (λ p. is_some (entry_at h p)) ps in
    let same = c.in_ok-known_parents.ensures.marks in
    let row = c.in_ok-known_parents.ensures.numbers id (named-id old (place_in c.args.number) c.requires.number) in
    let ids : ids_at mid c.deref.result.now ≡ known = subst (λ l. ids_at mid l ≡ known) (sym c.deref.ensures.value) (numbers-ids mid c.known_parents.new.into.items known row).1 in
    let front = c.args.walk.now.front in
    let after = queued_ids new c.hand_all.new.walk.front in
    let all = rw c.in_ok-known_parents.ensures.history at c.in-Ok.ensures.handed in
    let both = c.args.walk.now.both in
    let got : Gives h both w known (marks_at mid) (queued_ids mid front) (marks_at new) after = subst (λ l. Gives h both w l (marks_at mid) (queued_ids mid front) (marks_at new) after) ids all in
    gives_known h both w ps (marks_at old) (marks_at new) (queued_ids old front) after
    (gives_first h both w known (marks_at old) (marks_at mid) (marks_at new) (queued_ids old front) (queued_ids mid front) after
    (λ d. ap (λ o. marks_of (unwrap_or o no_mark).marks) (same d))
    (ids-grown-queue old mid c.in_ok-known_parents.ensures.grows front c.requires.right.held) got)

pub returns-in-Ok-clause-after : goal.returns-in-Ok-clause-after
returns-in-Ok-clause-after g c = record {
  same_history = ap g.S.Find.history c.hand_all.ensures.source ∙ c.known_parents.ensures.history;
  count = ap g.S.Find.fault_count c.hand_all.ensures.source ∙ c.in_ok-known_parents.ensures.count;
  held = λ q k. kept-same c.known_parents.new.graph c.hand_all.new.graph c.hand_all.ensures.ids q (kept-grown c.args.graph.now c.known_parents.new.graph c.known_parents.ensures.grows q k);
}

pub returns-in-Err-clause-after : goal.returns-in-Err-clause-after
returns-in-Err-clause-after g c = record {
  same_history = ap g.S.Find.history c.hand_all.ensures.source ∙ c.known_parents.ensures.history;
  count = ap g.S.Find.fault_count c.hand_all.ensures.source ∙ c.in_ok-known_parents.ensures.count;
  held = λ q k. kept-same c.known_parents.new.graph c.hand_all.new.graph c.hand_all.ensures.ids q (kept-grown c.args.graph.now c.known_parents.new.graph c.known_parents.ensures.grows q k);
}

pub returns-in_err-known_parents-clause-taken : goal.returns-in_err-known_parents-clause-taken
returns-in_err-known_parents-clause-taken g c =
    c.known_parents.ensures.more (id_at c.args.graph.now (place_in c.args.number)) (named-id c.args.graph.now (place_in c.args.number) c.requires.number)

pub returns-in-Ok-clause-taken : goal.returns-in-Ok-clause-taken
returns-in-Ok-clause-taken g c =
    let id = id_at c.args.graph.now (place_in c.args.number) in
    let h = g.S.Find.history c.args.graph.now.source in
    holds-after h (parents_in (entry_at h id)) c.args.graph.now c.known_parents.new.graph c.hand_all.new.graph c.hand_all.ensures.ids
    (c.known_parents.ensures.more id (named-id c.args.graph.now (place_in c.args.number) c.requires.number))

pub returns-in-Err-clause-taken : goal.returns-in-Err-clause-taken
returns-in-Err-clause-taken g c =
    let id = id_at c.args.graph.now (place_in c.args.number) in
    let h = g.S.Find.history c.args.graph.now.source in
    holds-after h (parents_in (entry_at h id)) c.args.graph.now c.known_parents.new.graph c.hand_all.new.graph c.hand_all.ensures.ids
    (c.known_parents.ensures.more id (named-id c.args.graph.now (place_in c.args.number) c.requires.number))

pub returns-in_err-known_parents-clause-right : goal.returns-in_err-known_parents-clause-right
returns-in_err-known_parents-clause-right g c = rw (as_err c.from_residual.ensures.0).1 tt

pub returns-in_err-known_parents-clause-handed : goal.returns-in_err-known_parents-clause-handed
returns-in_err-known_parents-clause-handed g c = rw (as_err c.from_residual.ensures.0).1 tt

pub returns-in_err-known_parents-clause-sides : goal.returns-in_err-known_parents-clause-sides
returns-in_err-known_parents-clause-sides g c = rw (as_err c.from_residual.ensures.0).1 tt
