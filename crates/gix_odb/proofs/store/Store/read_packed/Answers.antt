use Rattle.gix_odb.proofs.store.Store.read_packed.Goals as goal

pub loop-place-preserved : goal.loop-place-preserved
loop-place-preserved g c = c.or-failure.ensures c.args.id c.loop-place.invariant c.in-Err.ensures.failed
