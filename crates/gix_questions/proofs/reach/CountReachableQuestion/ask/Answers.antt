use Rattle.std.proofs.Common.{sym, subst}
use Rattle.gix_questions.specs.ReachQuestions.{MeansCountReachable}
use Rattle.gix_questions.proofs.reach.CountReachableQuestion.ask.Goals as goal

pub returns-in-Ok : goal.returns-in-Ok
returns-in-Ok g c =
    let q = c.args.self.now in
    let e = c.in-Ok.ensures in
    let is = c.with_seed-graph.ensures.source in
    subst (λ early. MeansCountReachable (g.S.Find.history c.args.source.now) early q.include.now q.exclude.now c.in-Ok.n) (sym c.if-self.false)
    (record { size = rw is at e.size; no_less = rw is at e.no_less; no_more = rw is at e.no_more })
