use Rattle.std.proofs.Common.{◌∙◌, arith}
use Rattle.gix_commitgraph.proofs.commit_graph.check.check_parents.Goals as goal

pub returns-then-limit-first-clause-wrong : goal.returns-then-limit-first-clause-wrong
returns-then-limit-first-clause-wrong c =
    let w = c.word_at-first.ensures.value in
    (c.args.i, c.requires.here, λ has. let b = has.first (λ e. c.if-first-ne-NONE.true (w ∙ e)) in omega arith)

pub returns-then-l-second-clause-wrong : goal.returns-then-l-second-clause-wrong
returns-then-l-second-clause-wrong c =
    let w = c.word_at-second.ensures.value in
    (c.args.i, c.requires.here, λ has. let b = has.others (omega arith) in omega arith)

pub returns-then-limit-second-clause-wrong : goal.returns-then-limit-second-clause-wrong
returns-then-limit-second-clause-wrong c =
    let w = c.word_at-second.ensures.value in
    (c.args.i, c.requires.here, λ has. let b = has.second (λ e. c.if-second-ne-NONE.true (w ∙ e)) (omega arith) in omega arith)
