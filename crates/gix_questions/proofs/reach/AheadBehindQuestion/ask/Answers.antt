use Rattle.std.proofs.Common.{sym, subst}
use Rattle.gix_questions.specs.ReachQuestions.{MeansAheadBehind}
use Rattle.gix_questions.proofs.reach.AheadBehindQuestion.ask.Goals as goal

pub returns-in-Ok : goal.returns-in-Ok
returns-in-Ok g c =
    let q = c.args.self.now in
    let e = c.in-Ok.ensures in
    let is = c.with_seed-graph.ensures.source in
    subst (λ early. MeansAheadBehind (g.S.Find.history c.args.source.now) early q.ours q.theirs c.in-Ok.counts.0 c.in-Ok.counts.1) (sym c.if-self.false)
    (record {
      ahead = rw is at e.ahead;
      behind = rw is at e.behind;
      no_less_ahead = rw is at e.no_less_ahead;
      no_less_behind = rw is at e.no_less_behind;
      no_more_ahead = rw is at e.no_more_ahead;
      no_more_behind = rw is at e.no_more_behind;
    })
