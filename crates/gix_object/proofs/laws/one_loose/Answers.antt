use Rattle.gix_object.proofs.Headers.{one-header, one-loose}
use Rattle.gix_object.proofs.laws.one_loose.Goals as goal

pub returns-clause-header : goal.returns-clause-header
returns-clause-header c = one-header

pub returns-clause-object : goal.returns-clause-object
returns-clause-object c = one-loose
