use Rattle.std.proofs.Common.{◌++◌, ◌∷◌}
use Rattle.gix_config.proofs.Texts.{tripled}
use Rattle.gix_config.proofs.name.is_triple.Goals as goal

pub returns-in-Some : goal.returns-in-Some
returns-in-Some c = tripled c.args.name.now c.args.section.now c.in-Some.rest.now (c.args.subsection.now ++ (46 ∷ c.args.key.now)) c.is_pair.result c.in-Some.ensures c.is_pair.ensures
