use Rattle.gix_odb.proofs.store.Store.refusal.Goals as goal

pub returns-in-Missing-Some : goal.returns-in-Missing-Some
returns-in-Missing-Some g c = c.error.ensures c.args.id
