use Rattle.std.below.core.proofs.iter.Serving.{as_err}
use Rattle.gix_resolve.proofs.ListTaken.{only_swapped}
use Rattle.gix_resolve.proofs.ReachCounted.{size-range}
use Rattle.gix_resolve.proofs.list.early.known_between.Goals as goal

pub returns-clause-size : goal.returns-clause-size
returns-clause-size g c = size-range (g.S.Find.history c.args.graph.now.source) c.args.from c.args.to _ (c.in_ok-counts.ensures.counts.first (λ a b _ e. c.requires a b e))

pub returns-in_err-counts-clause-size : goal.returns-in_err-counts-clause-size
returns-in_err-counts-clause-size g c = rw (as_err c.from_residual.ensures.0).1 tt

pub returns-in_err-counts-clause-taken : goal.returns-in_err-counts-clause-taken
returns-in_err-counts-clause-taken g c = only_swapped (g.S.Find.history c.args.graph.now.source) c.args.from c.args.to c.args.graph.now c.counted.new.graph c.counted.ensures.taken

pub returns-clause-taken : goal.returns-clause-taken
returns-clause-taken g c = only_swapped (g.S.Find.history c.args.graph.now.source) c.args.from c.args.to c.args.graph.now c.counted.new.graph c.counted.ensures.taken
