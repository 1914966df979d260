use Rattle.std.proofs.Common.{◌∙◌, arith, subst, List}
use Rattle.std.proofs.lemmas.List.{take_all}
use Rattle.gix_base.specs.declared.hash.ObjectId.{ObjectId}
use Rattle.gix_questions.specs.AncestryQuestions.{MeanContained}
use Rattle.gix_questions.proofs.Contained.{contained-next}
use Rattle.gix_questions.proofs.ancestry.all_tested.Goals as goal

pub loop-tip-preserved : goal.loop-tip-preserved
loop-tip-preserved g c =
    let inv = c.loop-tip.invariant in
    record {
      history = c.reaches.ensures.history ∙ inv.history;
      answers = rw c.push_reserved.ensures.items (contained-next _ c.args.early c.args.commit c.args.tips.now c.loop-tip.tip-index _ _ _ (omega arith) inv.answers (rw inv.history at c.in_ok-reached.ensures.means));
      len = omega (arith, c.push_reserved.ensures.len, inv.len);
      room = omega (arith, c.push_reserved.ensures.capacity, inv.room);
    }

pub returns : goal.returns
returns g c =
    let P : List ObjectId → Type 0 = λ xs. MeanContained (g.S.Find.history c.args.graph.now.source) c.args.early c.args.commit xs c.loop-tip.answers.items in
    subst P (take_all c.loop-tip.tip-index c.args.tips.now (omega arith)) c.loop-tip.invariant.answers
