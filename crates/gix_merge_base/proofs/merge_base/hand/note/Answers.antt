use Rattle.std.proofs.Common.{◌≡◌, ◌∙◌, sym, ap, true}
use Rattle.gix_revwalk.specs.Number.{place_in}
use Rattle.gix_revwalk.specs.declared.numbers.Mark.{Mark}
use Rattle.gix_merge_base.specs.Marks.{marks_of, becomes_result, noted}
use Rattle.gix_merge_base.specs.PaintQueue.{marks_at, queued_at, id_at}
use Rattle.gix_merge_base.specs.declared.merge_base.flags.Flags.{Flags}
use Rattle.gix_merge_base.proofs.Noted.{notes_one}
use Rattle.gix_merge_base.proofs.Numbered.{given-marks, given-queued, same-counts}
use Rattle.gix_merge_base.proofs.merge_base.hand.note.Goals as goal

pub returns-clause-notes : goal.returns-clause-notes
returns-clause-notes g c =
    let old = c.args.graph.now in
    let id = id_at old (place_in c.args.number) in
    let becomes : becomes_result (marks_at old id) ≡ true = ap (λ (z : Mark Flags). becomes_result (marks_of z.marks)) (sym c.mark_of-old.ensures) ∙ sym c.becomes_result.ensures ∙ c.if-not-becomes_result.false in
    notes_one (marks_at old) (marks_at c.set_mark.new.graph) id (marks_of c.noted.result) becomes
    (c.noted.ensures ∙ ap (λ (z : Mark Flags). noted (marks_of z.marks)) c.mark_of-old.ensures)
    (given-marks old c.set_mark.new.graph (place_in c.args.number) _ c.requires c.set_mark.ensures)

pub returns-clause-queued : goal.returns-clause-queued
returns-clause-queued g c =
    let old = c.args.graph.now in
    same-counts (queued_at old) (queued_at c.set_mark.new.graph) (id_at old (place_in c.args.number)) c.mark_of-old.result.queued (ap (λ (z : Mark Flags). z.queued) c.mark_of-old.ensures)
    (given-queued old c.set_mark.new.graph (place_in c.args.number) _ c.requires c.set_mark.ensures)
