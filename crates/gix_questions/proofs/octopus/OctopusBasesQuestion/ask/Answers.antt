use Rattle.gix_questions.proofs.octopus.OctopusBasesQuestion.ask.Goals as goal

pub returns-in-Ok : goal.returns-in-Ok
returns-in-Ok g c = rw c.with_seed-graph.ensures.source at c.in-Ok.ensures.exact
