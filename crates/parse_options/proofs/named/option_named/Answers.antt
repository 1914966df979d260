use Rattle.parse_options.proofs.Places.{named_begun}
use Rattle.parse_options.proofs.named.option_named.Goals as goal

pub returns-in-None : goal.returns-in-None
returns-in-None g c = named_begun c.args.choices.now c.args.name.now c.only_begun.result c.in-None.ensures c.only_begun.ensures
