use Rattle.gix_odb.proofs.store.Store.read_loose.Goals as goal

pub loop-number-preserved : goal.loop-number-preserved
loop-number-preserved g c = c.or-failure.ensures c.args.id c.loop-number.invariant c.in-Err.ensures.failed
