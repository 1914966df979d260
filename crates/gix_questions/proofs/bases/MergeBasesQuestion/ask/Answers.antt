use Rattle.gix_questions.proofs.bases.MergeBasesQuestion.ask.Goals as goal

pub returns-in-Ok : goal.returns-in-Ok
returns-in-Ok g c =
    let e = c.in-Ok.ensures in
    let is = c.with_seed-graph.ensures.source in
    record {
      bases = rw is at e.bases;
      without_generations = rw is at e.without_generations;
      once = e.once;
      order = rw is at e.order;
    }
