use Rattle.gix_odb.proofs.store.Store.read_once.Goals as goal

pub returns-in-Err-2-read_loose-clause-failed : goal.returns-in-Err-2-read_loose-clause-failed
returns-in-Err-2-read_loose-clause-failed g c = c.or.ensures c.args.id c.in-Err.ensures.failed c.in-Err-read_loose.ensures.failed
