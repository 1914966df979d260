use Rattle.gix_range.proofs.Frees.{frees_more}
use Rattle.gix_range.proofs.independence.keep_if_free.Goals as goal

pub returns-clause-frees : goal.returns-clause-frees
returns-clause-frees g c xs at =
    frees_more (g.S.Find.history c.args.graph.now.source) c.args.ids.now xs c.args.kept.now.items c.push_if.new.kept.items c.args.id c.in_ok-free.free c.in_ok-free.ensures.exact c.in_ok-push_if.ensures at
