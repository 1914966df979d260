use Rattle.std.proofs.Common.{◌≡◌, ap, sym, ◌∙◌, ℕ}
use Rattle.gix_revwalk.specs.Number.{place_in}
use Rattle.gix_merge_base.specs.Marks.{marks_of, no_marks}
use Rattle.gix_merge_base.specs.PaintQueue.{mark_or}
use Rattle.gix_merge_base.proofs.QueueKeys.{number-id}
use Rattle.gix_merge_base.proofs.Unheld.{unheld-marks}
use Rattle.gix_merge_base.proofs.merge_base.sides.marks_of_id.Goals as goal

pub mark_of-requires : goal.mark_of-requires
mark_of-requires g c = (number-id c.args.graph.now c.args.id (place_in c.in-Some.number) c.in-Some.ensures).0

pub returns-in-Some : goal.returns-in-Some
returns-in-Some g c =
    let at = number-id c.args.graph.now c.args.id (place_in c.in-Some.number) c.in-Some.ensures in
    ap (λ k. marks_of k.marks) c.mark_of.ensures ∙ ap (λ i. marks_of (mark_or c.args.graph.now i).marks) at.1

pub returns-in-None : goal.returns-in-None
returns-in-None g c =
    let none : marks_of c.empty.result ≡ no_marks = ap (λ (k : ℕ). marks_of (record { 0 = k })) (c.empty.ensures tt) in
    none ∙ sym (unheld-marks c.args.graph.now c.args.id c.in-None.ensures)
