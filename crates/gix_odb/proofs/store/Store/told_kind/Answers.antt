use Rattle.gix_odb.proofs.store.Store.told_kind.Goals as goal

pub returns-in-Some : goal.returns-in-Some
returns-in-Some g c = record { refused = c.error.ensures c.args.id }
