use Rattle.std.below.core.proofs.iter.Serving.{as_err}
use Rattle.gix_resolve.proofs.ListTaken.{only_swapped}
use Rattle.gix_resolve.proofs.ReachCounted.{counts-turned}
use Rattle.gix_resolve.proofs.reach.counted_turned.Goals as goal

pub returns-in_err-seconds-clause-taken : goal.returns-in_err-seconds-clause-taken
returns-in_err-seconds-clause-taken g c = only_swapped (g.S.Find.history c.args.graph.now.source) c.args.first c.args.second c.args.graph.now c.counted_two.new.graph c.counted_two.ensures.taken

pub returns-clause-counts : goal.returns-clause-counts
returns-clause-counts g c = counts-turned (g.S.Find.history c.args.graph.now.source) c.args.first c.args.second _ _ c.in_ok-seconds.ensures.counts

pub returns-clause-taken : goal.returns-clause-taken
returns-clause-taken g c = only_swapped (g.S.Find.history c.args.graph.now.source) c.args.first c.args.second c.args.graph.now c.counted_two.new.graph c.counted_two.ensures.taken

pub returns-in_err-seconds-clause-counts : goal.returns-in_err-seconds-clause-counts
returns-in_err-seconds-clause-counts g c = rw (as_err c.from_residual.ensures.0).1 tt
