use Rattle.gix_questions.proofs.bases.IndependentQuestion.ask.Goals as goal

pub returns-in-Ok : goal.returns-in-Ok
returns-in-Ok g c =
    let e = c.in-Ok.ensures in
    let is = c.with_seed-graph.ensures.source in
    record { independent = rw is at e.independent; kept = rw is at e.kept; some = e.some }
