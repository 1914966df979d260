use Rattle.gix_odb.proofs.failure.Failure.error.Goals as goal

pub returns-in-InFile : goal.returns-in-InFile
returns-in-InFile c = c.error.ensures c.args.id
