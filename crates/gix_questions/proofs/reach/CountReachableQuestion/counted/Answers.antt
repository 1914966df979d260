use Rattle.std.proofs.Common.{◌≡◌, length, arith}
use Rattle.std.proofs.lemmas.List.{nil_from_length}
use Rattle.gix_questions.proofs.Counted.{counts-reachable}
use Rattle.gix_questions.proofs.reach.CountReachableQuestion.counted.Goals as goal

pub returns-then-are_same : goal.returns-then-are_same
returns-then-are_same g c = λ h has.
    let none : length c.args.self.now.exclude.now ≡ 0 = grind (arith, c.is_empty.ensures, c.if-is_empty.true) in
    counts-reachable h c.args.self.now.early c.args.tips.now c.args.self.now.include.now c.args.self.now.exclude.now c.args.count (c.are_same.ensures c.if-are_same.true) (nil_from_length c.args.self.now.exclude.now none) has
