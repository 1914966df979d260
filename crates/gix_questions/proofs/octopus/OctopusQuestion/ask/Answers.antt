use Rattle.gix_questions.proofs.octopus.OctopusQuestion.ask.Goals as goal

pub returns-in-Ok : goal.returns-in-Ok
returns-in-Ok g c =
    let e = c.in-Ok.ensures in
    let is = c.with_seed-graph.ensures.source in
    record { base = rw is at e.base; common = rw is at e.common; first = rw is at e.first }
