use Rattle.std.proofs.Common.{◌<◌, ◌+◌, length, ◌∙◌, arith}
use Rattle.gix_commitgraph.proofs.commit_graph.commit.add_others.Goals as goal

pub id_in-requires-clause-here : goal.id_in-requires-clause-here
id_in-requires-clause-here g c =
    let w = c.word_at-second.ensures.value in
    let has = c.requires.sound.parents c.args.i c.requires.here in
    let b : c.word_at-second.result < length c.args.below.now + c.args.l.table.count = rw w (has.second (λ e. c.if-second-eq-NONE.false (w ∙ e)) (omega arith)) in
    omega arith
