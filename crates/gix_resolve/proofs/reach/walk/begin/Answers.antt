use Rattle.std.below.core.proofs.iter.Serving.{as_err}
use Rattle.std.proofs.Common.{◌≡◌, ◌∙◌, sym, ap, subst, is_some, [], ◌∷◌, false, true≢false}
use Rattle.std.specs.Option.{unwrap_or}
use Rattle.gix_revwalk.specs.History.{entry_at, Has}
use Rattle.gix_revwalk.specs.Number.{place_in}
use Rattle.gix_revwalk.proofs.Members.{one_of-single}
use Rattle.gix_merge_base.specs.Marks.{marks_of}
use Rattle.gix_resolve.specs.ReachSides.{Gives}
use Rattle.gix_resolve.proofs.ReachGives.{gives_none, gives_first}
use Rattle.gix_merge_base.specs.PaintQueue.{marks_at, queued_ids, id_at, no_mark}
use Rattle.gix_merge_base.proofs.Known.{ids-grown-queue}
use Rattle.gix_merge_base.proofs.QueueKeys.{number-id, kept-grown, kept-same, holds-after}
use Rattle.gix_revwalk.proofs.Growth.{more-taken}
use Rattle.gix_resolve.proofs.ListTaken.{only_held}
use Rattle.gix_resolve.specs.ReachWalk.{IsRight}
use Rattle.gix_resolve.proofs.ReachEnter.{right_grown}
use Rattle.gix_resolve.proofs.reach.walk.begin.Goals as goal

pub returns-in_default-clause-right : goal.returns-in_default-clause-right
returns-in_default-clause-right g c = right_grown (g.S.Find.history c.args.graph.now.source) c.args.graph.now c.take.new.graph c.args.walk.now c.in_ok-number.ensures.grows c.in_ok-number.ensures.marks c.requires

pub returns-in_default-clause-handed : goal.returns-in_default-clause-handed
returns-in_default-clause-handed g c =
    let h = g.S.Find.history c.args.graph.now.source in
    let had = rw c.in_default.is at c.in_ok-number.ensures.has in
    let lacks : is_some (entry_at h c.args.id) ≡ false = sym had in
    gives_none h c.args.walk.now.both (marks_of c.args.marks) (marks_at c.args.graph.now) (marks_at c.take.new.graph) (queued_ids c.args.graph.now c.args.walk.now.front) (queued_ids c.take.new.graph c.args.walk.now.front)
    (λ d. ap (λ o. marks_of (unwrap_or o no_mark).marks) (c.in_ok-number.ensures.marks d))
    (ids-grown-queue c.args.graph.now c.take.new.graph c.in_ok-number.ensures.grows c.args.walk.now.front c.requires.held)
    (c.args.id ∷ []) (λ p is_p has_p. absurd (true≢false (sym (subst (Has h) (one_of-single c.args.id p is_p) has_p) ∙ lacks)))

pub hand-requires-clause-number : goal.hand-requires-clause-number
hand-requires-clause-number g c = (number-id c.take.new.graph c.args.id (place_in c.in-Some.number) (rw c.in-Some.is at c.in_ok-number.ensures.number)).0

pub hand-requires-clause-right : goal.hand-requires-clause-right
hand-requires-clause-right g c =
    subst (λ h. IsRight h c.take.new.graph c.args.walk.now) (sym c.in_ok-number.ensures.history)
    (right_grown (g.S.Find.history c.args.graph.now.source) c.args.graph.now c.take.new.graph c.args.walk.now c.in_ok-number.ensures.grows c.in_ok-number.ensures.marks c.requires)

pub hand-requires-clause-has : goal.hand-requires-clause-has
hand-requires-clause-has g c =
    let had = rw c.in-Some.is at c.in_ok-number.ensures.has in
    let has : Has (g.S.Find.history c.args.graph.now.source) c.args.id = sym had in
    let is = (number-id c.take.new.graph c.args.id (place_in c.in-Some.number) (rw c.in-Some.is at c.in_ok-number.ensures.number)).1 in
    subst (λ h. Has h (id_at c.take.new.graph (place_in c.in-Some.number))) (sym c.in_ok-number.ensures.history) (subst (Has (g.S.Find.history c.args.graph.now.source)) (sym is) has)

pub returns-in-Ok-clause-right : goal.returns-in-Ok-clause-right
returns-in-Ok-clause-right g c = subst (λ h. IsRight h c.hand.new.graph c.hand.new.walk) c.in_ok-number.ensures.history c.in-Ok.ensures.right

pub returns-in-Ok-clause-handed : goal.returns-in-Ok-clause-handed
returns-in-Ok-clause-handed g c =
    let h = g.S.Find.history c.args.graph.now.source in
    let old = c.args.graph.now in
    let mid = c.take.new.graph in
    let new = c.hand.new.graph in
    let w = marks_of c.args.marks in
    let front = c.args.walk.now.front in
    let after = queued_ids new c.hand.new.walk.front in
    let is = (number-id mid c.args.id (place_in c.in-Some.number) (rw c.in-Some.is at c.in_ok-number.ensures.number)).1 in
    let all = rw c.in_ok-number.ensures.history at c.in-Ok.ensures.handed in
    let both = c.args.walk.now.both in
    let got : Gives h both w (c.args.id ∷ []) (marks_at mid) (queued_ids mid front) (marks_at new) after = subst (λ z. Gives h both w (z ∷ []) (marks_at mid) (queued_ids mid front) (marks_at new) after) is all in
    gives_first h both w (c.args.id ∷ []) (marks_at old) (marks_at mid) (marks_at new) (queued_ids old front) (queued_ids mid front) after
    (λ d. ap (λ o. marks_of (unwrap_or o no_mark).marks) (c.in_ok-number.ensures.marks d))
    (ids-grown-queue old mid c.in_ok-number.ensures.grows front c.requires.held) got

pub returns-in-Ok-clause-after : goal.returns-in-Ok-clause-after
returns-in-Ok-clause-after g c = record {
  same_history = ap g.S.Find.history c.hand.ensures.source ∙ c.in_ok-number.ensures.history;
  count = ap g.S.Find.fault_count c.hand.ensures.source ∙ c.in_ok-number.ensures.count;
  held = λ q k. kept-same c.take.new.graph c.hand.new.graph c.hand.ensures.ids q (kept-grown c.args.graph.now c.take.new.graph c.in_ok-number.ensures.grows q k);
}

pub returns-in-Err-clause-after : goal.returns-in-Err-clause-after
returns-in-Err-clause-after g c = record {
  same_history = ap g.S.Find.history c.hand.ensures.source ∙ c.in_ok-number.ensures.history;
  count = ap g.S.Find.fault_count c.hand.ensures.source ∙ c.in_ok-number.ensures.count;
  held = λ q k. kept-same c.take.new.graph c.hand.new.graph c.hand.ensures.ids q (kept-grown c.args.graph.now c.take.new.graph c.in_ok-number.ensures.grows q k);
}

pub returns-in_err-number-clause-taken : goal.returns-in_err-number-clause-taken
returns-in_err-number-clause-taken g c = only_held _ c.args.graph.now c.take.new.graph c.in_err-number.ensures.refused.0

pub returns-in_default-clause-taken : goal.returns-in_default-clause-taken
returns-in_default-clause-taken g c = more-taken (g.S.Find.history c.args.graph.now.source) c.args.graph.now c.take.new.graph c.args.id _ c.in_ok-number.ensures.taken

pub returns-in-Ok-clause-taken : goal.returns-in-Ok-clause-taken
returns-in-Ok-clause-taken g c =
    let h = g.S.Find.history c.args.graph.now.source in
    holds-after h (c.args.id ∷ []) c.args.graph.now c.take.new.graph c.hand.new.graph c.hand.ensures.ids
    (more-taken h c.args.graph.now c.take.new.graph c.args.id _ c.in_ok-number.ensures.taken)

pub returns-in-Err-clause-taken : goal.returns-in-Err-clause-taken
returns-in-Err-clause-taken g c =
    let h = g.S.Find.history c.args.graph.now.source in
    holds-after h (c.args.id ∷ []) c.args.graph.now c.take.new.graph c.hand.new.graph c.hand.ensures.ids
    (more-taken h c.args.graph.now c.take.new.graph c.args.id _ c.in_ok-number.ensures.taken)

pub returns-in_err-number-clause-right : goal.returns-in_err-number-clause-right
returns-in_err-number-clause-right g c = rw (as_err c.from_residual.ensures.0).1 tt

pub returns-in_err-number-clause-handed : goal.returns-in_err-number-clause-handed
returns-in_err-number-clause-handed g c = rw (as_err c.from_residual.ensures.0).1 tt

pub returns-in_err-number-clause-sides : goal.returns-in_err-number-clause-sides
returns-in_err-number-clause-sides g c = rw (as_err c.from_residual.ensures.0).1 tt
