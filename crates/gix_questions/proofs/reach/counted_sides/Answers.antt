use Rattle.gix_questions.proofs.Early.{means-counted}
use Rattle.gix_questions.proofs.reach.counted_sides.Goals as goal

pub returns-in-Ok : goal.returns-in-Ok
returns-in-Ok g c =
    let e = c.in-Ok.ensures in
    means-counted (g.S.Find.history c.args.graph.now.source) c.args.ours c.args.theirs c.in-Ok.counts.0 c.in-Ok.counts.1 e.ahead e.behind e.no_less_ahead e.no_less_behind e.no_more_ahead e.no_more_behind
