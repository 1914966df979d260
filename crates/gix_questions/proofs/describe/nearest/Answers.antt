use Rattle.gix_questions.proofs.describe.nearest.Goals as goal

pub returns-in-Ok : goal.returns-in-Ok
returns-in-Ok g c =
    let e = c.in-Ok.ensures in
    let is = c.with_seed-graph.ensures.source in
    (rw is at e.described, e.kept, rw is at e.tied)

pub returns : goal.returns
returns g c = rw c.with_seed-graph.ensures.source at c.in-Err.ensures.refused
