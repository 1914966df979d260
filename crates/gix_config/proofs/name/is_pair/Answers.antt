use Rattle.gix_config.proofs.Texts.{paired}
use Rattle.gix_config.proofs.name.is_pair.Goals as goal

pub returns-in-Some : goal.returns-in-Some
returns-in-Some c = paired c.args.name.now c.args.part.now c.in-Some.rest.now c.args.key.now c.eq.result c.in-Some.ensures c.eq.ensures
