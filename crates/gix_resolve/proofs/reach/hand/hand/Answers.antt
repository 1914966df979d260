use Rattle.std.below.core.proofs.iter.Serving.{as_err}
use Rattle.std.proofs.Common.{◌≡◌, refl, sym, ap, subst, ◌∙◌, [], ◌∷◌, ◌||◌, ◌⊎◌, inl, inr, IsTrue, is_some, true, false}
use Rattle.std.specs.Option.{unwrap_or}
use Rattle.gix_revwalk.specs.Data.{mark_at}
use Rattle.gix_revwalk.specs.Number.{place_in}
use Rattle.gix_revwalk.specs.declared.numbers.Mark.{Mark}
use Rattle.gix_revwalk.proofs.Members.{one_of-single}
use Rattle.gix_merge_base.specs.Marks.{marks_of, has_marks, HasMarksOf}
use Rattle.gix_merge_base.specs.PaintQueue.{marks_at, mark_or, no_mark, queued_ids, id_at}
use Rattle.gix_merge_base.specs.declared.merge_base.flags.Flags.{Flags}
use Rattle.gix_merge_base.proofs.Handing.{below-from_test}
use Rattle.gix_merge_base.proofs.Numbered.{named-id}
use Rattle.gix_merge_base.proofs.Painting.{or_either}
use Rattle.gix_resolve.specs.ReachSides.{hides}
use Rattle.gix_resolve.proofs.ReachMarks.{apart, turned}
use Rattle.gix_resolve.proofs.ReachGives.{gives_none, gives_entered}
use Rattle.gix_resolve.proofs.reach.hand.hand.Goals as goal

pub returns-then-is_full-clause-handed : goal.returns-then-is_full-clause-handed
returns-then-is_full-clause-handed g c =
    let h = g.S.Find.history c.args.graph.now.source in
    let id = id_at c.args.graph.now (place_in c.args.number) in
    let m = marks_at c.args.graph.now in
    let q = queued_ids c.args.graph.now c.args.walk.now.front in
    let both = c.args.walk.now.both in
    let w = marks_of c.args.marks in
    let known = c.mark_of-known.ensures id (named-id c.args.graph.now (place_in c.args.number) c.requires.number) in
    let had : c.mark_in-old.result ≡ mark_or c.args.graph.now id = c.mark_in-old.ensures ∙ ap (λ o. unwrap_or o no_mark) known in
    let full : (hides both (m id) || has_marks (m id) w) ≡ true = ap (λ (z : Mark Flags). hides both (marks_of z.marks) || has_marks (marks_of z.marks) w) (sym had) ∙ sym c.is_full.ensures ∙ c.if-is_full.true in
    let here : HasMarksOf w (m id) ⊎ IsTrue (hides both (m id)) = elim (or_either (hides both (m id)) (has_marks (m id) w) full) as (λ _. HasMarksOf w (m id) ⊎ IsTrue (hides both (m id))) [
      | inl hid ↦ inr hid
      | inr had ↦ inl (below-from_test (m id) w had)
    ] in
    gives_none h both w m m q q (λ c. refl) refl (id ∷ []) (λ p is_p has_p. subst (λ z. HasMarksOf w (m z) ⊎ IsTrue (hides both (m z))) (sym (one_of-single id p is_p)) here)

pub hide-requires-clause-had : goal.hide-requires-clause-had
hide-requires-clause-had g c =
    let id = id_at c.args.graph.now (place_in c.args.number) in
    c.mark_in-old.ensures ∙ ap (λ o. unwrap_or o no_mark) (c.mark_of-known.ensures id (named-id c.args.graph.now (place_in c.args.number) c.requires.number))

pub hide-requires-clause-shown : goal.hide-requires-clause-shown
hide-requires-clause-shown g c =
    let both = c.args.walk.now.both in
    (apart (hides both (marks_of c.mark_in-old.result.marks)) (has_marks (marks_of c.mark_in-old.result.marks) (marks_of c.args.marks)) true (sym c.is_full.ensures ∙ c.if-is_full.false)).0

pub hide-requires-clause-hidden : goal.hide-requires-clause-hidden
hide-requires-clause-hidden g c = ap (hides c.args.walk.now.both) (sym c.joined.ensures) ∙ sym c.is_hidden.ensures ∙ c.if-is_hidden.true

pub returns-then-is_hidden-clause-handed : goal.returns-then-is_hidden-clause-handed
returns-then-is_hidden-clause-handed g c =
    let old = c.args.graph.now in
    let new = c.hide.new.graph in
    let id = id_at old (place_in c.args.number) in
    let m = marks_at old in
    let both = c.args.walk.now.both in
    let w = marks_of c.args.marks in
    let known = c.mark_of-known.ensures id (named-id c.args.graph.now (place_in c.args.number) c.requires.number) in
    let had : c.mark_in-old.result ≡ mark_or c.args.graph.now id = c.mark_in-old.ensures ∙ ap (λ o. unwrap_or o no_mark) known in
    let empty : (hides both (m id) || has_marks (m id) w) ≡ false = ap (λ (z : Mark Flags). hides both (marks_of z.marks) || has_marks (marks_of z.marks) w) (sym had) ∙ sym c.is_full.ensures ∙ c.if-is_full.false in
    let lacking = (apart (hides both (m id)) (has_marks (m id) w) true empty).1 in
    gives_entered (g.S.Find.history old.source) both w id m (marks_at new) (queued_ids old c.args.walk.now.front) (queued_ids new c.hide.new.walk.front) c.requires.has lacking c.in_ok-hide.ensures.entered

pub show-requires-clause-had : goal.show-requires-clause-had
show-requires-clause-had g c =
    let id = id_at c.args.graph.now (place_in c.args.number) in
    c.mark_in-old.ensures ∙ ap (λ o. unwrap_or o no_mark) (c.mark_of-known.ensures id (named-id c.args.graph.now (place_in c.args.number) c.requires.number))

pub show-requires-clause-unmarked : goal.show-requires-clause-unmarked
show-requires-clause-unmarked g c =
    let id = id_at c.args.graph.now (place_in c.args.number) in
    let known = c.mark_of-known.ensures id (named-id c.args.graph.now (place_in c.args.number) c.requires.number) in
    turned c.is_none.result (is_some (mark_at c.args.graph.now id)) (sym (ap is_some known) ∙ c.is_none.ensures)

pub show-requires-clause-before : goal.show-requires-clause-before
show-requires-clause-before g c =
    let both = c.args.walk.now.both in
    (apart (hides both (marks_of c.mark_in-old.result.marks)) (has_marks (marks_of c.mark_in-old.result.marks) (marks_of c.args.marks)) true (sym c.is_full.ensures ∙ c.if-is_full.false)).0

pub show-requires-clause-shown : goal.show-requires-clause-shown
show-requires-clause-shown g c = ap (hides c.args.walk.now.both) (sym c.joined.ensures) ∙ sym c.is_hidden.ensures ∙ c.if-is_hidden.false

pub returns-clause-handed : goal.returns-clause-handed
returns-clause-handed g c =
    let old = c.args.graph.now in
    let new = c.show.new.graph in
    let id = id_at old (place_in c.args.number) in
    let m = marks_at old in
    let both = c.args.walk.now.both in
    let w = marks_of c.args.marks in
    let known = c.mark_of-known.ensures id (named-id c.args.graph.now (place_in c.args.number) c.requires.number) in
    let had : c.mark_in-old.result ≡ mark_or c.args.graph.now id = c.mark_in-old.ensures ∙ ap (λ o. unwrap_or o no_mark) known in
    let empty : (hides both (m id) || has_marks (m id) w) ≡ false = ap (λ (z : Mark Flags). hides both (marks_of z.marks) || has_marks (marks_of z.marks) w) (sym had) ∙ sym c.is_full.ensures ∙ c.if-is_full.false in
    let lacking = (apart (hides both (m id)) (has_marks (m id) w) true empty).1 in
    gives_entered (g.S.Find.history old.source) both w id m (marks_at new) (queued_ids old c.args.walk.now.front) (queued_ids new c.show.new.walk.front) c.requires.has lacking c.in_ok-show.ensures.entered

pub returns-clause-right : goal.returns-clause-right
returns-clause-right g c = c.in_ok-show.ensures.right

pub returns-then-is_hidden-clause-right : goal.returns-then-is_hidden-clause-right
returns-then-is_hidden-clause-right g c = c.in_ok-hide.ensures.right

pub returns-in_err-hide-clause-right : goal.returns-in_err-hide-clause-right
returns-in_err-hide-clause-right g c = rw (as_err c.from_residual.ensures.0).1 tt

pub returns-in_err-hide-clause-handed : goal.returns-in_err-hide-clause-handed
returns-in_err-hide-clause-handed g c = rw (as_err c.from_residual.ensures.0).1 tt

pub returns-then-is_full-clause-right : goal.returns-then-is_full-clause-right
returns-then-is_full-clause-right g c = c.requires.right

pub returns-then-is_full-clause-sides : goal.returns-then-is_full-clause-sides
returns-then-is_full-clause-sides g c = (refl, refl)

pub returns-then-is_full-clause-ids : goal.returns-then-is_full-clause-ids
returns-then-is_full-clause-ids g c = refl

pub returns-then-is_full-clause-source : goal.returns-then-is_full-clause-source
returns-then-is_full-clause-source g c = refl

pub returns-in_err-hide-clause-sides : goal.returns-in_err-hide-clause-sides
returns-in_err-hide-clause-sides g c = c.hide.ensures.sides

pub returns-in_err-hide-clause-ids : goal.returns-in_err-hide-clause-ids
returns-in_err-hide-clause-ids g c = c.hide.ensures.ids

pub returns-in_err-hide-clause-source : goal.returns-in_err-hide-clause-source
returns-in_err-hide-clause-source g c = c.hide.ensures.source

pub returns-then-is_hidden-clause-sides : goal.returns-then-is_hidden-clause-sides
returns-then-is_hidden-clause-sides g c = c.hide.ensures.sides

pub returns-then-is_hidden-clause-ids : goal.returns-then-is_hidden-clause-ids
returns-then-is_hidden-clause-ids g c = c.hide.ensures.ids

pub returns-then-is_hidden-clause-source : goal.returns-then-is_hidden-clause-source
returns-then-is_hidden-clause-source g c = c.hide.ensures.source

pub returns-in_err-show-clause-sides : goal.returns-in_err-show-clause-sides
returns-in_err-show-clause-sides g c = c.show.ensures.sides

pub returns-in_err-show-clause-ids : goal.returns-in_err-show-clause-ids
returns-in_err-show-clause-ids g c = c.show.ensures.ids

pub returns-in_err-show-clause-source : goal.returns-in_err-show-clause-source
returns-in_err-show-clause-source g c = c.show.ensures.source

pub returns-clause-sides : goal.returns-clause-sides
returns-clause-sides g c = c.show.ensures.sides

pub returns-clause-ids : goal.returns-clause-ids
returns-clause-ids g c = c.show.ensures.ids

pub returns-clause-source : goal.returns-clause-source
returns-clause-source g c = c.show.ensures.source

pub returns-in_err-show-clause-right : goal.returns-in_err-show-clause-right
returns-in_err-show-clause-right g c = rw (as_err c.from_residual-in_err-show.ensures.0).1 tt

pub returns-in_err-show-clause-handed : goal.returns-in_err-show-clause-handed
returns-in_err-show-clause-handed g c = rw (as_err c.from_residual-in_err-show.ensures.0).1 tt
