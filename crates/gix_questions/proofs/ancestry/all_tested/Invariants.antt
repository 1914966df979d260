use Rattle.std.proofs.Common.{◌≡◌, ◌≤◌, take, length, vec_len}
use Rattle.std.specs.Vec.{vec_capacity}
use Rattle.gix_questions.specs.AncestryQuestions.{MeanContained}
use Rattle.gix_questions.proofs.ancestry.all_tested.Given as goal

abbrev pub invariant-loop-tip : goal.invariant-loop-tip
invariant-loop-tip g l = record {
  history : g.S.Find.history l.graph.source ≡ g.S.Find.history l.fn.graph.source;
  answers : MeanContained (g.S.Find.history l.fn.graph.source) l.early l.commit (take l.tip-index l.tips) l.answers.items;
  len : vec_len l.answers ≡ l.tip-index;
  room : length l.tips ≤ vec_capacity l.answers;
}
