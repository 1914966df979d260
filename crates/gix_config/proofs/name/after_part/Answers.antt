use Rattle.gix_config.proofs.Texts.{dotted}
use Rattle.gix_config.proofs.name.after_part.Goals as goal

pub returns-in-Some : goal.returns-in-Some
returns-in-Some c = dotted c.args.name.now c.args.part.now c.in-Some.rest.now c.after_front-in-Some.result c.in-Some.ensures c.after_front-in-Some.ensures
