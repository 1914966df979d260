use Rattle.std.proofs.Common.{◌≡◌, refl, sym, ap, subst, ◌∙◌, [], ◌∷◌, true, false}
use Rattle.gix_revwalk.specs.Number.{place_in}
use Rattle.gix_revwalk.specs.declared.numbers.Mark.{Mark}
use Rattle.gix_revwalk.proofs.Members.{one_of-single}
use Rattle.gix_merge_base.specs.Marks.{marks_of, has_marks, HasMarksOf}
use Rattle.gix_merge_base.specs.PaintQueue.{marks_at, queued_ids, id_at}
use Rattle.gix_merge_base.specs.declared.merge_base.flags.Flags.{Flags}
use Rattle.gix_merge_base.proofs.Fronts.{keeps_none, same_none}
use Rattle.gix_merge_base.proofs.Handing.{hands_none, hands_one, below-from_test}
use Rattle.gix_merge_base.proofs.merge_base.hand.Front.hand.Goals as goal

pub returns-then-has-clause-hands : goal.returns-then-has-clause-hands
returns-then-has-clause-hands g c has =
    let h = g.S.Find.history c.args.graph.now.source in
    let id = id_at c.args.graph.now (place_in c.args.number) in
    let m = marks_at c.args.graph.now in
    let q = queued_ids c.args.graph.now c.args.self.now.queue in
    let had : has_marks (m id) (marks_of c.args.marks) ≡ true = ap (λ (z : Mark Flags). has_marks (marks_of z.marks) (marks_of c.args.marks)) (sym c.mark_of-old.ensures) ∙ sym c.has.ensures ∙ c.if-has.true in
    hands_none h (marks_of c.args.marks) m m q q (λ c. refl) refl (id ∷ []) (λ p is_p has_p. subst (λ z. HasMarksOf (marks_of c.args.marks) (m z)) (sym (one_of-single id p is_p)) (below-from_test (m id) (marks_of c.args.marks) had))

pub returns-then-has-clause-keeps : goal.returns-then-has-clause-keeps
returns-then-has-clause-keeps g c = keeps_none _ _ _ _

pub returns-then-has-clause-same : goal.returns-then-has-clause-same
returns-then-has-clause-same g c = same_none _

pub returns-clause-hands : goal.returns-clause-hands
returns-clause-hands g c has =
    let h = g.S.Find.history c.args.graph.now.source in
    let old_graph = c.args.graph.now in
    let new_graph = c.enter.new.graph in
    let id = id_at old_graph (place_in c.args.number) in
    let m = marks_at old_graph in
    let lacking : has_marks (m id) (marks_of c.args.marks) ≡ false = ap (λ (z : Mark Flags). has_marks (marks_of z.marks) (marks_of c.args.marks)) (sym c.mark_of-old.ensures) ∙ sym c.has.ensures ∙ c.if-has.false in
    hands_one h (marks_of c.args.marks) id m (marks_at new_graph) (queued_ids old_graph c.args.self.now.queue) (queued_ids new_graph c.enter.new.self.queue) has lacking
    c.in_ok-enter.ensures.enters.marks c.in_ok-enter.ensures.enters.queue
