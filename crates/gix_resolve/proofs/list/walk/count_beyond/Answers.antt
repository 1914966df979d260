use Rattle.std.below.core.proofs.iter.Serving.{as_err}
use Rattle.std.proofs.Common.{arith}
use Rattle.gix_revwalk.specs.History.{IsBeyond}
use Rattle.gix_resolve.proofs.ListCounts.{size-behind}
use Rattle.gix_resolve.proofs.list.walk.count_beyond.Goals as goal

pub returns-clause-size : goal.returns-clause-size
returns-clause-size g c =
    let listed = c.in_ok-listed.listed in
    size-behind (IsBeyond (g.S.Find.history c.args.graph.now.source) c.args.hidden.now c.args.shown.now) c.list_beyond.new.graph listed.numbers.items listed.hidden _ (omega (arith, c.len.ensures)) c.in_ok-listed.ensures.beyond

pub returns-in_err-listed-clause-size : goal.returns-in_err-listed-clause-size
returns-in_err-listed-clause-size g c = rw (as_err c.from_residual.ensures.0).1 tt

pub returns-in_err-listed-clause-taken : goal.returns-in_err-listed-clause-taken
returns-in_err-listed-clause-taken g c = c.list_beyond.ensures.taken

pub returns-clause-taken : goal.returns-clause-taken
returns-clause-taken g c = c.list_beyond.ensures.taken
