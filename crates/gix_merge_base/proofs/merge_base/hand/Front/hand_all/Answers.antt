use Rattle.std.proofs.Common.{ap, subst, arith}
use Rattle.std.proofs.lemmas.List.{length-map, take_all}
use Rattle.gix_revwalk.specs.Number.{place_in}
use Rattle.gix_revwalk.specs.declared.numbers.Number.{Number}
use Rattle.gix_merge_base.specs.Front.{HandsOn, Keeps}
use Rattle.gix_merge_base.specs.Marks.{marks_of}
use Rattle.gix_merge_base.specs.PaintQueue.{marks_at, queued_ids, ids_at, id_at}
use Rattle.gix_merge_base.proofs.Fronts.{keeps_then, same_then}
use Rattle.gix_merge_base.proofs.Numbered.{item-listed, hands-step}
use Rattle.gix_merge_base.proofs.merge_base.hand.Front.hand_all.Goals as goal

pub loop-number-preserved : goal.loop-number-preserved
loop-number-preserved g c =
    let lt = c.loop-number-test.true in
    let h = g.S.Find.history c.args.graph.now.source in
    let w = marks_of c.args.marks in
    let old = c.loop-number.invariant in
    let hands = rw old.same.source at c.in_ok-hand.ensures.hands in
    let keeps = subst (λ z. Keeps z w c.loop-number.graph c.loop-number.self c.hand.new.graph c.hand.new.self) (ap g.S.Find.history old.same.source) c.in_ok-hand.ensures.keeps in
    record {
      hands = λ has. hands-step h w c.args.graph.now c.loop-number.graph old.same.ids c.args.numbers.now c.loop-number.number-index _ lt
          (marks_at c.args.graph.now) (marks_at c.loop-number.graph) (marks_at c.hand.new.graph) (queued_ids c.args.graph.now c.args.self.now.queue) (queued_ids c.loop-number.graph c.loop-number.self.queue) (queued_ids c.hand.new.graph c.hand.new.self.queue)
          (old.hands has) (hands (has _ (item-listed c.args.graph.now c.loop-number.graph old.same.ids c.args.numbers.now c.loop-number.number-index _ lt)));
      keeps = keeps_then h w _ _ c.loop-number.graph c.loop-number.self _ _ old.keeps keeps;
      same = same_then _ _ _ old.same c.in_ok-hand.ensures.same;
    }

pub returns-clause-hands : goal.returns-clause-hands
returns-clause-hands g c has =
    let h = g.S.Find.history c.args.graph.now.source in
    let ids = ids_at c.args.graph.now c.args.numbers.now in
    let len = length-map c.args.numbers.now (λ (k : Number). id_at c.args.graph.now (place_in k)) in
    subst (λ l. HandsOn h (marks_of c.args.marks) l c.args.graph.now c.args.self.now c.loop-number.graph c.loop-number.self)
    (take_all c.loop-number.number-index ids (omega arith)) (c.loop-number.invariant.hands has)

pub returns-clause-keeps : goal.returns-clause-keeps
returns-clause-keeps g c = c.loop-number.invariant.keeps

pub returns-clause-same : goal.returns-clause-same
returns-clause-same g c = c.loop-number.invariant.same

pub returns-in_err-hand-clause-same : goal.returns-in_err-hand-clause-same
returns-in_err-hand-clause-same g c = same_then _ _ _ c.loop-number.invariant.same c.hand.ensures.same
