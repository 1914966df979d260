use Rattle.std.proofs.Common.{refl, ap, subst, sym, rules}
use Rattle.gix_revwalk.specs.History.{entry_at, parents_in}
use Rattle.gix_revwalk.specs.Number.{place_in}
use Rattle.gix_merge_base.specs.Front.{IsQueued, Keeps}
use Rattle.gix_merge_base.specs.PaintSteps.{Hands, Steps}
use Rattle.gix_merge_base.specs.Marks.{marks_of, handed_on}
use Rattle.gix_merge_base.specs.PaintQueue.{marks_at, queued_ids, id_at}
use Rattle.gix_merge_base.proofs.Fronts.{right_kept, right_noted, meets_as, meets_same, meets_stepped}
use Rattle.gix_merge_base.proofs.Numbered.{ids-same, id-same}
use Rattle.gix_merge_base.proofs.merge_base.hand.Walk.step.Goals as goal

pub hand_parents-requires-clause-queued : goal.hand_parents-requires-clause-queued
hand_parents-requires-clause-queued g c =
    let h = g.S.Find.history c.args.graph.now.source in
    let mid = c.note.new.graph in
    let noted = c.in-Ok.ensures in
    let front = c.args.self.now.front in
    subst (λ z. IsQueued z mid front) (sym (ap g.S.Find.history noted.same.source)) (right_noted h c.args.graph.now mid front noted.same (λ d. (noted.notes.same d).2) noted.queued c.requires.right).queued

pub returns-clause-steps : goal.returns-clause-steps
returns-clause-steps g c =
    let old = c.args.graph.now in
    let mid = c.note.new.graph in
    let new = c.hand_parents.new.graph in
    let h = g.S.Find.history old.source in
    let id = id_at old (place_in c.args.number) in
    let queue = c.args.self.now.front.queue in
    let after = queued_ids new c.hand_parents.new.self.front.queue in
    let noted = c.in-Ok.ensures in
    let handed = rw (noted.same.source) at c.in_ok-hand_parents.ensures.hands in
    let steps : Steps h id (marks_at old) (queued_ids old queue) (marks_at new) after = (
      marks_at mid,
      noted.notes,
      subst (λ q. Hands h (handed_on (marks_at old id)) (parents_in (entry_at h id)) (marks_at mid) q (marks_at new) after) (ids-same old mid noted.same.ids queue)
          (subst (λ w. Hands h w (parents_in (entry_at h id)) (marks_at mid) (queued_ids mid queue) (marks_at new) after) noted.hands_on
          (subst (λ i. Hands h (marks_of c.in-Ok.marks) (parents_in (entry_at h i)) (marks_at mid) (queued_ids mid queue) (marks_at new) after) (id-same old mid noted.same.ids (place_in c.args.number)) handed)),
    ) in
    record { steps = steps; results = noted.results }

pub returns-clause-right : goal.returns-clause-right
returns-clause-right g c =
    let h = g.S.Find.history c.args.graph.now.source in
    let mid = c.note.new.graph in
    let noted = c.in-Ok.ensures in
    let front = c.args.self.now.front in
    let keeps = subst (λ z. Keeps z (marks_of c.in-Ok.marks) mid front c.hand_parents.new.graph c.hand_parents.new.self.front) (ap g.S.Find.history noted.same.source) c.in_ok-hand_parents.ensures.keeps in
    right_kept h (marks_of c.in-Ok.marks) mid front c.hand_parents.new.graph c.hand_parents.new.self.front keeps
    (right_noted h c.args.graph.now mid front noted.same (λ d. (noted.notes.same d).2) noted.queued c.requires.right)

pub returns-in-Err-clause-meets : goal.returns-in-Err-clause-meets
returns-in-Err-clause-meets g c = meets_same _ c.args.graph.now c.note.new.graph _ refl c.note.ensures.same

pub returns-in_err-hand_parents-clause-meets : goal.returns-in_err-hand_parents-clause-meets
returns-in_err-hand_parents-clause-meets g c = meets_stepped (place_in c.args.number) c.args.graph.now c.note.new.graph c.hand_parents.new.graph _ c.note.ensures.same (meets_as _ _ _ _ _ (search rules) c.in_err-hand_parents.ensures.meets)

pub returns-clause-meets : goal.returns-clause-meets
returns-clause-meets g c = meets_stepped (place_in c.args.number) c.args.graph.now c.note.new.graph c.hand_parents.new.graph _ c.note.ensures.same c.in_ok-hand_parents.ensures.meets
