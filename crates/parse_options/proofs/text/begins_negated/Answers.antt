use Rattle.parse_options.specs.Names.{no}
use Rattle.parse_options.proofs.Texts.{short_front}
use Rattle.parse_options.proofs.text.begins_negated.Goals as goal

pub returns-in-None : goal.returns-in-None
returns-in-None c = short_front no c.args.long.now c.args.name.now c.begins-in-None.result c.in-None.ensures c.begins-in-None.ensures
