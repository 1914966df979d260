use Rattle.std.below.core.proofs.iter.Serving.{as_err}
use Rattle.std.proofs.Common.{sym}
use Rattle.gix_revwalk.proofs.Growth.{more-taken}
use Rattle.gix_resolve.proofs.ListCounts.{size-alone, size-not_alone}
use Rattle.gix_resolve.proofs.ListTaken.{only_held, only_alone}
use Rattle.gix_resolve.proofs.list.count.count_of_one.Goals as goal

pub returns-in-Some-clause-size : goal.returns-in-Some-clause-size
returns-in-Some-clause-size g c =
    let had = rw c.in-Some.is at c.in_ok-take.ensures.has in
    size-alone (g.S.Find.history c.args.graph.now.source) c.args.id (sym had)

pub returns-in-None-clause-size : goal.returns-in-None-clause-size
returns-in-None-clause-size g c =
    let had = rw c.in-None.is at c.in_ok-take.ensures.has in
    size-not_alone (g.S.Find.history c.args.graph.now.source) c.args.id (sym had)

pub returns-in_err-take-clause-taken : goal.returns-in_err-take-clause-taken
returns-in_err-take-clause-taken g c = only_held _ c.args.graph.now c.take.new.graph c.in_err-take.ensures.refused.0

pub returns-in-Some-clause-taken : goal.returns-in-Some-clause-taken
returns-in-Some-clause-taken g c =
    let h = g.S.Find.history c.args.graph.now.source in
    only_alone h c.args.id c.args.graph.now c.take.new.graph (more-taken h c.args.graph.now c.take.new.graph c.args.id _ c.in_ok-take.ensures.taken)

pub returns-in-None-clause-taken : goal.returns-in-None-clause-taken
returns-in-None-clause-taken g c =
    let h = g.S.Find.history c.args.graph.now.source in
    only_alone h c.args.id c.args.graph.now c.take.new.graph (more-taken h c.args.graph.now c.take.new.graph c.args.id _ c.in_ok-take.ensures.taken)

pub returns-in_err-take-clause-size : goal.returns-in_err-take-clause-size
returns-in_err-take-clause-size g c = rw (as_err c.from_residual.ensures.0).1 tt
