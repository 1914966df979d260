use Rattle.std.proofs.Common.{sym, subst}
use Rattle.gix_questions.specs.ReachQuestions.{MeansReachable}
use Rattle.gix_questions.proofs.reach.ReachableNewestFirstQuestion.ask.Goals as goal

pub returns-in-Ok : goal.returns-in-Ok
returns-in-Ok g c =
    let q = c.args.self.now in
    let e = c.in-Ok.ensures in
    let is = c.with_seed-graph.ensures.source in
    subst (λ early. MeansReachable (g.S.Find.history c.args.source.now) early q.include.now q.exclude.now c.in-Ok.ids.items) (sym c.if-self.false)
    (record { reached = rw is at e.reached; every = rw is at e.every; shown = rw is at e.shown; order = rw is at e.order })
